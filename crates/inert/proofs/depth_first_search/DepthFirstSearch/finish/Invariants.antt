use Rattle.std.proofs.Common.{◌≡◌}
use Rattle.inert.specs.{SearchMoves.steps, SearchMoves.GoesOn, Search.stage_at, Search.Unvisited}
use Rattle.inert.proofs.depth_first_search.DepthFirstSearch.finish.Given as goal

abbrev pub invariant-loop-self : goal.invariant-loop-self
invariant-loop-self g l = record {
  on : GoesOn l.lens l.fn.signatures l.signatures (g.M.Meter.counted l.fn.m) (g.M.Meter.counted l.m) l.fn.self l.self;
  found : ¬ (stage_at l.self.stages l.s ≡ Unvisited);
}

abbrev pub decreases-loop-self : goal.decreases-loop-self
decreases-loop-self g l = steps l.self
