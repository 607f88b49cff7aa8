use Rattle.std.proofs.Common.{◌≡◌, ℕ, ◌<◌, length, slice_index}
use Rattle.refine.proofs.all_signatures.all_states.Given as goal

abbrev pub invariant-loop-s : goal.invariant-loop-s
invariant-loop-s l = record {
  size : length l.all.items ≡ l.s;
  each : (t : ℕ) → t < l.s → slice_index l.all.items t ≡ t;
}
