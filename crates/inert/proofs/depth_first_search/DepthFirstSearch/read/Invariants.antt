use Rattle.inert.specs.SearchMoves.{GoesOn}
use Rattle.inert.proofs.Reading.{Stays}
use Rattle.inert.proofs.depth_first_search.DepthFirstSearch.read.Given as goal

abbrev pub invariant-loop-k : goal.invariant-loop-k
invariant-loop-k g l = record {
  on : GoesOn l.lens l.signatures l.signatures (g.M.Meter.counted l.fn.m) (g.M.Meter.counted l.m) l.fn.self l.self;
  stays : Stays l.fn.self l.self l.k;
}
