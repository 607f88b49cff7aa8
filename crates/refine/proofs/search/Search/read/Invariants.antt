use Rattle.std.proofs.Common.{◌-◌}
use Rattle.lts.specs.Meter.{Costs}
use Rattle.refine.proofs.Searching.{ReadsRow}
use Rattle.refine.proofs.search.Search.read.Given as goal

abbrev pub invariant-loop-k : goal.invariant-loop-k
invariant-loop-k g l = record {
  row : ReadsRow l.lens l.s l.initial.self l.i l.start l.k l.self;
  cost : Costs (g.M.Meter.counted l.initial.m) (g.M.Meter.counted l.m) 0 (l.k - l.start) (l.k - l.start);
}
