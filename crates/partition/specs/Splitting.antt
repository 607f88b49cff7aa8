-- Defines how blocks are split. A function gives a value to each state. Two states are in the same block after the
-- split if and only if they were in the same block before the split and have the same value.
use Rattle.std.specs.Prelude.{◌≡◌, ◌↔◌, ℕ, ◌<◌, ◌≤◌, List, length, slice_index}
use Rattle.partition.specs.Partition.{AreBlocks}

-- `Alike` holds if both of the following conditions hold. First, the states s and t are in the same block before the
-- split. Second, `has` gives the same value to both states.
abbrev pub Alike : {X : Type 0} → List ℕ → (ℕ → X) → ℕ → ℕ → Type 0
Alike old has s t = (slice_index old s ≡ slice_index old t) × (has s ≡ has t)

-- `IsSingleton` holds if the state s is the only state of its block. The list `old` contains the block ID of each
-- state.
abbrev pub IsSingleton : List ℕ → ℕ → Type 0
IsSingleton old s = (t : ℕ) → t < length old → slice_index old t ≡ slice_index old s → t ≡ s

-- The list `old` contains the block IDs of all states before a split, and `new` contains their block IDs after the
-- split. There are `count` blocks before the split, and `more` blocks after it. `Splits` holds if all four of the
-- following conditions hold. First, `new` contains a valid block ID for each state (`AreBlocks`), and `more` is at
-- least `count`. Second, two states are in the same block after the split if and only if they were in the same block
-- before the split and `has` gives them the same value. Third, each state keeps its block ID, or gets an ID of at least
-- `count`. Fourth, if there are more blocks after the split than before, the split has separated two states of the same
-- block.
pub record Splits {X : Type 0} (old : List ℕ) (count : ℕ) (has : ℕ → X) (new : List ℕ) (more : ℕ) : Type 0 where
  pub states : length new ≡ length old
  pub blocks : AreBlocks new more
  pub grows : count ≤ more
  pub alike : (s t : ℕ) → s < length old → t < length old → (slice_index new s ≡ slice_index new t) ↔ Alike old has s t
  pub stays : (s : ℕ) → s < length old → slice_index new s < count → slice_index new s ≡ slice_index old s
  pub parts : count < more → (s t : ℕ) × (s < length old) × (t < length old) × (slice_index old s ≡ slice_index old t)
      × ¬ (slice_index new s ≡ slice_index new t)
