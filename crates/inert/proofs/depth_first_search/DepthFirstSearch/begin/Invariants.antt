use Rattle.std.proofs.Common.{◌≡◌}
use Rattle.inert.specs.SearchMoves.{GoesOn}
use Rattle.inert.proofs.Reading.{collecting, framed}
use Rattle.inert.proofs.depth_first_search.DepthFirstSearch.begin.Given as goal

abbrev pub invariant-loop-k : goal.invariant-loop-k
invariant-loop-k g l = record {
  same : l.self ≡ collecting l.fn.self.stages l.self.items;
  begun : GoesOn l.lens l.signatures l.signatures (g.M.Meter.counted l.fn.m) (g.M.Meter.counted l.m) l.fn.self
      (framed l.s l.k l.end l.fn.self.stages l.self.items);
}
