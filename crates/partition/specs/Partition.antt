-- A partition of the states 0, 1, .. into blocks is stored as a list that contains the block ID of each state.
use Rattle.std.specs.Prelude.{◌≡◌, ℕ, ◌<◌, ◌≤◌, List, length, slice_index}
use Rattle.memory.specs.declared.limits.TheConstants.{MOST_STATES}

-- States are numbers. `IsPartition` holds for the block IDs of all states if all three of the following conditions
-- hold. First, each state has a block ID less than `count`. Second, each number less than `count` is the ID of some
-- block. Third, the blocks are numbered in the order of their least members. This means that, if a state is in the
-- block b, each block with a smaller ID than b contains a state that is less than this state. The number of states must
-- be from 1 to 2,000,000 (`MOST_STATES`).
pub record IsPartition (blocks : List ℕ) (count : ℕ) : Type 0 where
  pub some : 1 ≤ length blocks
  pub few : length blocks ≤ MOST_STATES
  pub below : (s : ℕ) → s < length blocks → slice_index blocks s < count
  pub used : (b : ℕ) → b < count → (s : ℕ) × (s < length blocks) × (slice_index blocks s ≡ b)
  pub in_order : (s b : ℕ) → s < length blocks → b < slice_index blocks s →
      (t : ℕ) × (t < s) × (slice_index blocks t ≡ b)

-- `IsSomePartition` holds if `IsPartition` holds for some number of blocks. This means that, for some number n, the
-- block IDs are the numbers from 0 to n - 1, and that the blocks are numbered in the order of their least members.
abbrev pub IsSomePartition : List ℕ → Type 0
IsSomePartition blocks = (count : ℕ) × IsPartition blocks count

-- `AreBlocks` holds for the block IDs of all states if both of the following conditions hold. First, each state has a
-- block ID less than `count`. Second, each number less than `count` is the ID of some block. The blocks may be numbered
-- in any order. The number of states must be from 1 to 2,000,000 (`MOST_STATES`).
pub record AreBlocks (blocks : List ℕ) (count : ℕ) : Type 0 where
  pub some : 1 ≤ length blocks
  pub few : length blocks ≤ MOST_STATES
  pub fewer : count ≤ length blocks
  pub below : (s : ℕ) → s < length blocks → slice_index blocks s < count
  pub used : (b : ℕ) → b < count → (s : ℕ) × (s < length blocks) × (slice_index blocks s ≡ b)
