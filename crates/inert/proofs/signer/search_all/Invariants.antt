use Rattle.std.proofs.Common.{ℕ, ◌<◌, ◌≤◌, length, slice_index}
use Rattle.inert.specs.{Steps.remaining, Search.IsFinished, SearchMoves.ahead, SearchMoves.ReturnsToRest}
use Rattle.inert.proofs.signer.search_all.Given as goal

abbrev pub invariant-loop-i : goal.invariant-loop-i
invariant-loop-i g l = record {
  rests : ReturnsToRest l.lens l.fn.signatures l.signatures (g.M.Meter.counted l.fn.m) (g.M.Meter.counted l.m)
      l.fn.search l.search;
  all : (j : ℕ) → l.i ≤ j → j < length l.active → IsFinished l.search.stages (slice_index l.active j);
  few : ahead l.lens l.fn.search ≤ length (remaining l.lens);
}
