use Rattle.std.proofs.Common.{ap₂, ◌∙◌, ◌||◌}
use Rattle.std.proofs.lemmas.Result.{IfOk-weaker}
use Rattle.clap.specs.Words.{with_rule}
use Rattle.arguments.proofs.arguments.described_cmp.Goals as goal

pub returns-clause-words : goal.returns-clause-words
returns-clause-words c =
    let with_one = c.in_ok-arg.ensures.shape c.needed_file.ensures.local
    ∙ ap₂ with_rule c.in_ok-described_job.ensures.words c.needed_file.ensures.rule in
    IfOk-weaker c.arg-2.result _ _ (λ _ adds. adds.shape c.needed_file-2.ensures.local
    ∙ ap₂ with_rule with_one c.needed_file-2.ensures.rule) c.arg-2.ensures

pub returns-clause-local : goal.returns-clause-local
returns-clause-local c =
    let in_one =
    c.in_ok-arg.ensures.globals ∙ ap₂ ◌||◌ c.in_ok-described_job.ensures.local c.needed_file.ensures.local in
    IfOk-weaker c.arg-2.result _ _ (λ _ adds. adds.globals ∙ ap₂ ◌||◌ in_one c.needed_file-2.ensures.local)
    c.arg-2.ensures
