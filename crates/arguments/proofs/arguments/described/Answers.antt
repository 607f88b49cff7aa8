use Rattle.std.proofs.Common.{ap, ap₂, ◌∙◌, true}
use Rattle.std.proofs.lemmas.Result.{IfOk-weaker}
use Rattle.clap.specs.{Simple.app_of_fields, Words.App, Words.with_subcommand}
use Rattle.arguments.proofs.arguments.described.Goals as goal

pub returns : goal.returns
returns c =
    let about = ap app_of_fields c.about.ensures ∙ c.new.ensures.app in
    let versioned = ap app_of_fields c.version.ensures
    ∙ ap (λ (app : App). record app { top = record app.top { has_version = true } }) about in
    let helped = ap app_of_fields c.after_help.ensures ∙ versioned in
    let required = ap app_of_fields c.subcommand_required.ensures
    ∙ ap (λ (app : App). record app { top = record app.top { subcommand_required = true } }) helped in
    let with_min = c.in_ok-subcommand.ensures.shape c.in_ok-min.ensures.local
    ∙ ap₂ with_subcommand required (ap (λ (app : App). app.top) c.in_ok-min.ensures.words) in
    let named = ap app_of_fields c.in_ok-bin_name.ensures.0 ∙ with_min in
    IfOk-weaker c.subcommand-2.result _ _
    (λ _ adds. adds.shape c.in_ok-described_cmp.ensures.local ∙ ap₂ with_subcommand named
    (ap (λ (app : App). app.top) c.in_ok-described_cmp.ensures.words))
    c.subcommand-2.ensures
