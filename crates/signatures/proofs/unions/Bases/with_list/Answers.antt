use Rattle.std.proofs.{Common.rules, Common.◌≡◌, Common.[], Common.sym, lemmas.Result.IfOk-weaker}
use Rattle.signatures.{specs.Lists.list_at, proofs.Uniting.IsUnion-grown, proofs.Uniting.if_both}
use Rattle.signatures.proofs.unions.Bases.with_list.Goals.{After-deref}
use Rattle.signatures.proofs.unions.Bases.with_list.Goals as goal

-- Before the call of `with`, the vector `held` contains the pairs of the list with the ID `few`.
held_is : (c : After-deref) → c.deref.result.now ≡ list_at c.args.self.now.trie c.args.few
held_is c = search rules

pub with-requires-clause-fit : goal.with-requires-clause-fit
with-requires-clause-fit c =
    rw (held_is ((goal.at.with-requires-clause-fit c).After-deref))
    (c.invariants.ensures.stored.fit _ [] c.requires.few)

pub returns-clause-union : goal.returns-clause-union
returns-clause-union c =
    let held = held_is ((goal.at.returns-clause-union c).After-deref) in
    IfOk-weaker c.with.result _ _
    (λ i h. IsUnion-grown c.with.ensures.grow c.requires.few c.requires.list h.0 (rw (sym held) h.1))
    (if_both c.with.result _ _ c.with.ensures.within c.with.ensures.exactly)
