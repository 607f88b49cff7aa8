-- Defines the span of a block, which is the range of the indices at which the states of the block are stored.
use Rattle.std.specs.Prelude.{ℕ, ◌-◌, ◌<◌, ◌≤◌, List, length, get_or}

-- The span of a block is the range of the indices at which the states of the block are stored. `from` returns the index
-- at which the span of the block b begins, and `to` returns the first index after the span.
abbrev pub from : List (ℕ × ℕ) → ℕ → ℕ
from spans b = (get_or spans b (0, 0)).0

abbrev pub to : List (ℕ × ℕ) → ℕ → ℕ
to spans b = (get_or spans b (0, 0)).1

-- The span of a block is the range of the indices at which the states of the block are stored. `InSpan` holds if the
-- index i is in the span of the block b.
pub record InSpan (spans : List (ℕ × ℕ)) (b i : ℕ) : Type 0 where
  pub block : b < length spans
  pub low : from spans b ≤ i
  pub high : i < to spans b

-- Returns the length of the span of the block b. The span is the range of the indices at which the states of b are
-- stored, and therefore the length of the span is the number of states of b.
abbrev pub span_size : List (ℕ × ℕ) → ℕ → ℕ
span_size spans b = to spans b - from spans b
