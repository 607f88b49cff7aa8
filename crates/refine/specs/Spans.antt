-- Defines how the type `SignatureBuffer` stores several lists in one buffer. Each list is stored as a range of the
-- buffer. A span consists of the first index of such a range (the start) and the first index after the range (the end).
use Rattle.std.specs.Prelude.{ℕ, ◌≤◌, List, length, map}
use Rattle.std.specs.List.{slice_range}
use Rattle.refine.specs.declared.buffer.Span.{Span}

-- Returns the lists that are stored in the buffer `pairs`. Each element of `spans` describes the range of the buffer
-- that stores one list: it consists of the first index of this range and the first index after the range.
abbrev pub signatures_in : List (ℕ × ℕ) → List Span → List (List (ℕ × ℕ))
signatures_in pairs spans = map (λ x. slice_range pairs x.start x.end) spans

-- `IsSpan` holds if the span x is a range of indices of the buffer `pairs`: its start is at most its end, and its end
-- is at most the length of the buffer.
pub record IsSpan (pairs : List (ℕ × ℕ)) (x : Span) : Type 0 where
  pub forward : x.start ≤ x.end
  pub within : x.end ≤ length pairs
