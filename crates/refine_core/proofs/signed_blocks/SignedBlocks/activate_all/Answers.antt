use Rattle.std.proofs.Common.{sym, inr}
use Rattle.refine_core.proofs.Rounds.{ready_all}
use Rattle.refine_core.proofs.signed_blocks.SignedBlocks.activate_all.Goals as goal

pub invariant_of-result : goal.invariant_of-result
invariant_of-result g c = let none = rw (sym c.round.view_is) at c.in_ok-round.ensures.empty in
    rw c.with_active-blocks.ensures.same (c.round.invariant.0, λ s h. inr (none s h))

pub returns-clause-begun : goal.returns-clause-begun
returns-clause-begun g c rel awaits = let round = rw (sym c.round.view_is) at c.in_ok-round.ensures in
    rw c.with_active-blocks.ensures.same
    (ready_all rel _ awaits.old _ (rw round.same.0 awaits.is.states) (rw round.same.0 awaits.is.follows)
    c.in_ok-active.ensures.others (rw (round.same.1, round.same.0) awaits.is.index) (λ _. round.discarded))
