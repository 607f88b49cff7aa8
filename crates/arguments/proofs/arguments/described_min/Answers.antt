use Rattle.std.proofs.Common.{ap₂, ◌∙◌, ◌||◌}
use Rattle.std.proofs.lemmas.Result.{IfOk-weaker}
use Rattle.clap.specs.Words.{with_rule}
use Rattle.arguments.proofs.arguments.described_min.Goals as goal

pub returns-clause-words : goal.returns-clause-words
returns-clause-words c =
    let with_one = c.in_ok-arg.ensures.shape c.stats_flag.ensures.local
    ∙ ap₂ with_rule c.in_ok-described_job.ensures.words c.stats_flag.ensures.rule in
    IfOk-weaker c.arg-2.result _ _ (λ _ adds. adds.shape c.file.ensures.local
    ∙ ap₂ with_rule with_one c.file.ensures.rule) c.arg-2.ensures

pub returns-clause-local : goal.returns-clause-local
returns-clause-local c =
    let in_one =
    c.in_ok-arg.ensures.globals ∙ ap₂ ◌||◌ c.in_ok-described_job.ensures.local c.stats_flag.ensures.local in
    IfOk-weaker c.arg-2.result _ _ (λ _ adds. adds.globals ∙ ap₂ ◌||◌ in_one c.file.ensures.local) c.arg-2.ensures
