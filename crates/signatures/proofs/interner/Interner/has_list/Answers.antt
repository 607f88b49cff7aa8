use Rattle.std.proofs.Common.{inl, inr, ⊎_elim}
use Rattle.signatures.{specs.Extensions.parts_of, proofs.Ascending.merged_has, proofs.ExtendedLists.has_either}
use Rattle.signatures.proofs.interner.Interner.has_list.Goals as goal

pub returns-then-list-other : goal.returns-then-list-other
returns-then-list-other c t z d =
    let first = has_either _ _ c.self.view_is _ c.requires.list (parts_of c.of-list.result) c.of-list.ensures z in
    let second = has_either _ _ c.self.view_is _ c.requires.other (parts_of c.of-other.result) c.of-other.ensures z in
    let extra = merged_has z c.of-list.result.extra.now c.of-other.result.extra.now in
    first.1 (⊎_elim (λ has. inl (rw c.if-list-other.true has))
    (λ has. inr (rw (c.has_all.ensures.0 t) at (extra.1 (inr has)))) (second.0 d))
