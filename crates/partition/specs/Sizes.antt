-- Defines the number of states in a block.
use Rattle.std.specs.Prelude.{◌==◌, ℕ, ◌*◌, ◌<◌, ◌≤◌, List, length, slice_index}
use Rattle.std.specs.List.{filter}

-- Returns the number of states in the block b. The list `of` contains the block ID of each state.
abbrev pub block_size : List ℕ → ℕ → ℕ
block_size of b = length (filter (λ x. x == b) of)

-- The list `old` contains the block IDs of all states before a split, and `new` contains their block IDs after the
-- split. `HalvesBlocks` holds if each new block contains at most half of the states of the old block that it comes
-- from. The new blocks are the blocks with an ID of at least `count`.
abbrev pub HalvesBlocks : List ℕ → ℕ → List ℕ → Type 0
HalvesBlocks old count new = (s : ℕ) → s < length old → ¬ (slice_index new s < count)
    → block_size new (slice_index new s) * 2 ≤ block_size old (slice_index old s)
