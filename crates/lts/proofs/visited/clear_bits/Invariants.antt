use Rattle.std.proofs.Common.{◌≡◌, ℕ, ◌/◌, ◌<◌, length, get_or, Contains}
use Rattle.lts.proofs.Visits.{bit}
use Rattle.lts.proofs.visited.clear_bits.Given as goal

-- A place is the index of a transition. The invariant states three facts. First, the number of words stays the same.
-- Second, each bit that is 1 is the bit of a place in the list `places` (`old`). Third, the words that contain the bits
-- of the first i places of this list are zero.
abbrev pub invariant-loop-i : goal.invariant-loop-i
invariant-loop-i l = record {
  size : length l.words ≡ length l.initial.words;
  old : (k : ℕ) → bit l.words k ≡ 1 → Contains l.places k;
  zero : (j : ℕ) → j < l.i → get_or l.words (get_or l.places j 0 / 64) 0 ≡ 0;
}
