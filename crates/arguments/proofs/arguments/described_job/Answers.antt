use Rattle.std.proofs.Common.{ap, ap₂, ◌≡◌, ◌∙◌, false, ◌||◌}
use Rattle.std.proofs.lemmas.Result.{IfOk-weaker}
use Rattle.clap.specs.{Simple.app_of_fields, Words.app_of, Words.new_app, Words.with_rule}
use Rattle.clap.specs.declared.builder.command.Command.TheViews.{out-Command}
use Rattle.arguments.proofs.arguments.described_job.Goals as goal

pub returns-clause-words : goal.returns-clause-words
returns-clause-words c =
    let new_is : app_of c.after_help.result ≡ new_app c.args.name.now = ap app_of_fields c.after_help.ensures
    ∙ ap app_of_fields c.about.ensures ∙ c.new.ensures.app in
    let with_relation = c.in_ok-arg.ensures.shape c.relation_option.ensures.local
    ∙ ap₂ with_rule new_is c.relation_option.ensures.rule in
    IfOk-weaker c.arg-2.result _ _ (λ _ adds. adds.shape c.hide_option.ensures.local
    ∙ ap₂ with_rule with_relation c.hide_option.ensures.rule) c.arg-2.ensures

pub returns-clause-local : goal.returns-clause-local
returns-clause-local c =
    let none : (out-Command c.after_help.result).has_globals ≡ false = ap (λ fields. fields.has_globals)
    c.after_help.ensures ∙ ap (λ fields. fields.has_globals) c.about.ensures ∙ c.new.ensures.local in
    let in_relation = c.in_ok-arg.ensures.globals ∙ ap₂ ◌||◌ none c.relation_option.ensures.local in
    IfOk-weaker c.arg-2.result _ _ (λ _ adds. adds.globals ∙ ap₂ ◌||◌ in_relation c.hide_option.ensures.local)
    c.arg-2.ensures
