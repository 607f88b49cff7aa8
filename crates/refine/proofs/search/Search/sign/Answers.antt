use Rattle.std.proofs.Common.{[], ap, refl, subst}
use Rattle.theory.specs.declared.relation.Relation.TheVariants.{Branching}
use Rattle.inert.specs.Signed.{IsSignature}
use Rattle.lts.proofs.CallerLemmas.{none_visited}
use Rattle.refine.proofs.Searching.{signed}
use Rattle.refine.proofs.search.Search.sign.Goals as goal

pub returns-clause-signature : goal.returns-clause-signature
returns-clause-signature g c =
    let u = c.new-lens.result in
    let zs = c.order.new.pairs.items in
    subst (λ u. IsSignature Branching u.l u.blocks c.args.s zs) c.new-lens.ensures
    (signed u c.args.s c.invariants.ensures.lts c.invariants.ensures.laws c.inert_steps_stay.ensures.block
    c.inert_steps_stay.ensures.kept c.find-found.new.self c.in_ok-found.ensures.found zs c.order.ensures.ascending
    (rw (ap (λ f. f.pairs) c.self.view_is) at c.order.ensures.same))

pub new-lens-requires : goal.new-lens-requires
new-lens-requires g c = let none = none_visited c.args.l.now.places record { rounds = 0; visits = 0 } [] refl in
    record { size = c.requires.blocks; visited = none.are }
