use Rattle.std.proofs.Common.{◌∙◌, ◌⊎◌, ◌↔◌, Contains, ap, sym, subst}
use Rattle.std.proofs.lemmas.Result.{IfOk-weaker}
use Rattle.signatures.{specs.Lists.list_at, specs.Lists.merged, proofs.Storing.Grow-twice, proofs.Uniting.same_as}
use Rattle.signatures.proofs.{ExtendedLists.AreExtended-grow, ExtendedLists.Grow-lists, Ascending.merged_has}
use Rattle.signatures.proofs.interner.Interner.join.Goals as goal

-- Suppose that the last of the lists with an ID in `lists` contains all pairs of the other lists, and all pairs in
-- `pairs`. Then this last list is the union of all these lists and of `pairs`.
pub returns-in-Some-clause-exactly : goal.returns-in-Some-clause-exactly
returns-in-Some-clause-exactly c z = rw c.deref.ensures.value at (c.in-Some.ensures.exactly z)

-- The call of `union_of` may add lists to the trie, which stores lists of pairs that other lists can share. The lists
-- of the interner nevertheless stay the same.
pub invariant_of-self : goal.invariant_of-self
invariant_of-self c = AreExtended-grow c.union_of.ensures.grow _ _ c.self.invariant

pub returns-in_err-base-clause-grow : goal.returns-in_err-base-clause-grow
returns-in_err-base-clause-grow c =
    rw (← c.self.view_is) (Grow-lists c.union_of.ensures.grow _ c.self.invariant.each)

-- The union is given in two parts: its base, which is a list of pairs that several lists can share, and its extra
-- pairs, which are all other pairs of the union. The call of `intern_with` interns the union.
pub intern_with-requires-clause-extensions : goal.intern_with-requires-clause-extensions
intern_with-requires-clause-extensions c = AreExtended-grow c.union_of.ensures.grow _ _ c.self.invariant

pub returns-clause-grow : goal.returns-clause-grow
returns-clause-grow c =
    let grown = Grow-lists c.union_of.ensures.grow _ c.self.invariant.each in
    rw (← c.self.view_is) (Grow-twice grown c.intern_with.ensures.keeps.lists)

pub returns-clause-exactly : goal.returns-clause-exactly
returns-clause-exactly c =
    let list = list_at c.union_of.new.bases.trie c.in_ok-base.base in
    let pairs = c.union_of.new.pairs.items in
    IfOk-weaker c.intern_with.result _ _ (λ k e z.
    same_as (subst (λ l. Contains l z ↔ (Contains list z ⊎ Contains pairs z))
    (sym (e ∙ ap (merged list) c.deref-2.ensures.value)) (merged_has z list pairs))
    (rw (← c.self.view_is) (c.in_ok-base.ensures.exactly z))) c.intern_with.ensures.list
