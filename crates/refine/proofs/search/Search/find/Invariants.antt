use Rattle.std.proofs.Common.{◌≡◌, ◌+◌, ◌-◌, take, sum_by}
use Rattle.refine.specs.Search.{FindsFrom}
use Rattle.refine.proofs.Searching.{row_length}
use Rattle.refine.proofs.search.Search.find.Given as goal

abbrev pub invariant-loop-i : goal.invariant-loop-i
invariant-loop-i g l = record {
  search : FindsFrom l.lens l.s l.self l.i;
  rounds : (g.M.Meter.counted l.m).rounds ≡ (g.M.Meter.counted l.fn.m).rounds;
  visits : (g.M.Meter.counted l.m).visits ≡ (g.M.Meter.counted l.fn.m).visits
      + sum_by (row_length l.lens.l.places) (take l.i l.self.states);
}

abbrev pub decreases-loop-i : goal.decreases-loop-i
decreases-loop-i g l = l.lens.l.states - l.i
