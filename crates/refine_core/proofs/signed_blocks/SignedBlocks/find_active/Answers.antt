use Rattle.std.proofs.Common.{sym}
use Rattle.refine_core.proofs.Rounds.{searched}
use Rattle.refine_core.proofs.signed_blocks.SignedBlocks.find_active.Goals as goal

pub returns-clause-begun : goal.returns-clause-begun
returns-clause-begun g c = let done = c.in_ok-predecessors.ensures in
    rw c.with_active-blocks.ensures.same (searched _ _ c.invariants.ensures _ _ _ _ _
    (rw (sym c.self.view_is) at c.requires.awaits) (λ none. cc) done.index done.found.complete)
