use Rattle.std.proofs.Common.{rules, ◌≡◌, ◌∙◌, ℕ, [], ◌∷◌, ap, replicate, arith}
use Rattle.std.proofs.lemmas.List.{get_or-map, get_or-replicate, length-replicate}
use Rattle.signatures.specs.Lists.{list_at}
use Rattle.refine.proofs.all_signatures.Signatures.new.Goals as goal

pub returns-clause-empty : goal.returns-clause-empty
returns-clause-empty c s h =
    let ids : c.in_ok-vec.field-0.items ≡ replicate c.args.states 0 = search rules in
    rw (ids, c.in_ok-new-2.ensures, c.in_ok-new.ensures)
    (get_or-map (list_at ([] ∷ [])) (replicate c.args.states 0) s 0 [] (omega (arith, h, length-replicate {A = ℕ}))
    ∙ ap (list_at ([] ∷ [])) (get_or-replicate c.args.states s 0 0 h))
