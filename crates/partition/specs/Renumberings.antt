-- Defines how often the block ID of a state changes while blocks are split. For each split, the list `past` contains a
-- list of the block IDs that the states had before this split. The lists for later splits come first in `past`.
use Rattle.std.specs.Prelude.{◌≡◌, ◌⊎◌, ℕ, ◌+◌, ◌*◌, ◌<◌, ◌≤◌, cond, eqb, List, [], ◌∷◌, length, slice_index}
use Rattle.partition.specs.Sizes.{block_size}

-- The list `old` contains the block IDs of all states before a split, and `new` contains their block IDs after the
-- split. `SplitsByHalves` holds if both of the following conditions hold. First, no state is in a larger block after
-- the split than before the split. Second, each state whose block ID changes is in a block of at most half the size of
-- its old block (Hopcroft 1971). The two lists must have the same length.
abbrev pub SplitsByHalves : List ℕ → List ℕ → Type 0
SplitsByHalves old new = (length new ≡ length old) × ((s : ℕ) → s < length old →
    let now = block_size new (slice_index new s) in let was = block_size old (slice_index old s) in
    (now ≤ was) × ((slice_index new s ≡ slice_index old s) ⊎ (now * 2 ≤ was)))

-- For each split, the list `past` contains a list of the block IDs that the states had before this split. The list
-- `now` contains the present block IDs. `WereHalved` holds if each split satisfies `SplitsByHalves`, which includes the
-- following two conditions. First, no state is in a larger block after the split than before the split. Second, each
-- state whose block ID changes is in a block of at most half the size of its old block.
abbrev pub WereHalved : List ℕ → List (List ℕ) → Type 0
WereHalved now [] = Unit {0}
WereHalved now (old ∷ past) = SplitsByHalves old now × WereHalved old past

-- Returns how often the block ID of the state s has changed. For each split, the list `past` contains a list of the
-- block IDs that the states had before this split. The list `now` contains the present block IDs.
abbrev pub renumberings : List ℕ → List (List ℕ) → ℕ → ℕ
renumberings now [] s = 0
renumberings now (old ∷ past) s = renumberings old past s + cond (eqb (slice_index now s) (slice_index old s)) 0 1
