use Rattle.std.proofs.Common.{◌≡◌, ℕ, ◌<◌, ◌≤◌, false, IsTrue, length, slice_index, slice_index_or}
use Rattle.refine.proofs.search.unmark.Given as goal

abbrev pub invariant-loop-s : goal.invariant-loop-s
invariant-loop-s l = record {
  size : length l.marked.items ≡ length l.initial.marked.items;
  left : (s : ℕ) → IsTrue (slice_index_or l.marked.items s false) → (j : ℕ) × (l.s-index ≤ j) × (j < length l.states)
      × (slice_index l.states j ≡ s);
}
