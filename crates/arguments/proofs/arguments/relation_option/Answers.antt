use Rattle.std.proofs.Common.{Some, [], ◌∷◌, ◌∙◌, ap, codes}
use Rattle.clap.specs.Words.{Rule, rule_of}
use Rattle.arguments.proofs.arguments.relation_option.Goals as goal

pub returns-clause-rule : goal.returns-clause-rule
returns-clause-rule c =
    let long = ap rule_of c.long.ensures ∙ ap (λ (rule : Rule). record rule { long = Some (codes "relation") })
    c.new.ensures.rule in
    let named = ap rule_of c.value_name.ensures ∙ ap (λ (rule : Rule). record rule { value_names = 1 }) long in
    let strong = ap rule_of c.default_value.ensures
    ∙ ap (λ (rule : Rule). record rule { defaults = codes "strong" ∷ [] }) named in
    ap rule_of c.help.ensures ∙ strong
