use Rattle.std.proofs.Common.{◌∙◌, codes, refl}
use Rattle.clap.specs.Words.{found_of}
use Rattle.clap.proofs.WalkLemmas.{one_text-rows}
use Rattle.arguments.proofs.arguments.min_of.Goals as goal

pub returns-clause-job : goal.returns-clause-job
returns-clause-job c =
    let flag = one_text-rows (found_of c.args.matches.now) (codes "stats") in (
      refl,
      c.in_ok-relation.ensures.ok,
      record {
        given = λ e. c.get_flag-stats.ensures.value (flag ∙ e);
        left_out = λ e. c.get_flag-stats.ensures.other (flag ∙ e);
        unknown = λ e. c.get_flag-stats.ensures.none (flag ∙ e);
      },
      c.in_ok-hide.ensures,
      c.in_ok-file.ensures,
    )
