-- Defines the model of `Blocks`, which stores the blocks of a round of refinement. `Blocks` also stores the active
-- states, which are the states that the round processes.
use Rattle.std.specs.Prelude.{◌≡◌, ◌⊎◌, ℕ, ◌<◌, ◌≤◌, List, length, slice_index}
use Rattle.partition.specs.declared.layout.Layout.{Layout}
use Rattle.partition.specs.Layout.{IsLayout}
use Rattle.partition.specs.Splitting.{IsSingleton, Splits}
use Rattle.partition.specs.Sizes.{HalvesBlocks}

-- `RoundBlocks` consists of the data of a round: the block ID of each state (`block_ids`), the number of blocks
-- (`count`), the ID of the first new block (`first_new`), and the active states (`active`), which are the states that
-- the round processes. The blocks with an ID of at least `first_new` were made by the last split.
pub record RoundBlocks : Type 0 where
  pub block_ids : List ℕ
  pub count : ℕ
  pub first_new : ℕ
  pub active : List ℕ

-- `IsMember` holds if the state s is in the list `active`.
abbrev pub IsMember : List ℕ → ℕ → Type 0
IsMember active s = (i : ℕ) × (i < length active) × (slice_index active i ≡ s)

-- The active states of a round are the states that the round processes. States are numbers. `AreActive` holds for the
-- list `active` of these states if both of the following conditions hold. First, each element of the list is less than
-- `states`, which is the number of all states. Second, the list is in strictly ascending order.
pub record AreActive (states : ℕ) (active : List ℕ) : Type 0 where
  pub few : length active ≤ states
  pub below : (i : ℕ) → i < length active → slice_index active i < states
  pub ascending : (i j : ℕ) → i < j → j < length active → slice_index active i < slice_index active j

-- The active states are the states that a round processes. From time to time, the states of singleton blocks (blocks
-- with one state) are removed from the active states, and `singletons` is the number of singleton blocks at the last
-- removal. `IsRound` holds if all three of the following conditions hold. First, the states are stored block by block
-- (`IsLayout`). Second, the list `active` of the active states is in strictly ascending order (`AreActive`). Third,
-- `singletons` is at most the number of blocks.
pub record IsRound (layout : Layout) (active : List ℕ) (singletons : ℕ) : Type 0 where
  pub is : IsLayout layout
  pub ascending : AreActive (length layout.block_ids.items) active
  pub fewer : singletons ≤ length layout.spans.items

-- `InactiveHaveNone` holds if each state is in the list `active`, or has the signature ID 0, which is the ID of the
-- empty signature.
abbrev pub InactiveHaveNone : List ℕ → List ℕ → Type 0
InactiveHaveNone active signature_ids = (s : ℕ) → s < length signature_ids → IsMember active s
    ⊎ (slice_index signature_ids s ≡ 0)

-- `HaveSignatureIds` holds if all three of the following conditions hold. First, `signature_ids` contains a signature
-- ID for each state. Second, the list `active` of the active states, which are the states that a round processes, is in
-- strictly ascending order (`AreActive`). Third, each state that is not active has the signature ID 0, which is the ID
-- of the empty signature.
pub record HaveSignatureIds (states : ℕ) (active signature_ids : List ℕ) : Type 0 where
  pub size : length signature_ids ≡ states
  pub ascending : AreActive states active
  pub none : InactiveHaveNone active signature_ids

-- `AreSplitBlocks` states how the blocks after a split (q) result from the blocks before the split (p). It holds if all
-- four of the following conditions hold. First, the blocks of q result from splitting the blocks of p by the signature
-- IDs in `signature_ids`. Second, if a block of p is split, each new block that results contains at most half of the
-- states of the block of p. Third, the ID of the first new block of q is the number of blocks of p. Fourth, p and q
-- have the same active states, which are the states that the round processes.
pub record AreSplitBlocks (p : RoundBlocks) (signature_ids : List ℕ) (q : RoundBlocks) : Type 0 where
  pub splits : Splits p.block_ids p.count (slice_index signature_ids) q.block_ids q.count
  pub halves : HalvesBlocks p.block_ids p.count q.block_ids
  pub first_new : q.first_new ≡ p.count
  pub active : q.active ≡ p.active

-- `AreStatesOf` is about the blocks whose IDs b satisfy `start` <= b < `stop`. The list `of` contains the block ID of
-- each state. `AreStatesOf` holds if the list `states` contains each state of these blocks exactly once, and contains
-- no other states.
pub record AreStatesOf (of : List ℕ) (start stop : ℕ) (states : List ℕ) : Type 0 where
  pub at : ℕ → ℕ
  pub each : (i : ℕ) → i < length states → let s = slice_index states i in
      (s < length of) × (start ≤ slice_index of s) × (slice_index of s < stop) × (at s ≡ i)
  pub all : (s : ℕ) → s < length of → start ≤ slice_index of s → slice_index of s < stop →
      (at s < length states) × (slice_index states (at s) ≡ s)

-- `AreNewStates` is about the new blocks, which are the blocks with an ID of at least `first_new`. The list `of`
-- contains the block ID of each state. `AreNewStates` holds if the list `states` contains each state of the new blocks
-- exactly once, and contains no other states.
pub record AreNewStates (of : List ℕ) (first_new : ℕ) (states : List ℕ) : Type 0 where
  pub below : (i : ℕ) → i < length states → slice_index states i < length of
  pub new : (i : ℕ) → i < length states → first_new ≤ slice_index of (slice_index states i)
  pub all : (s : ℕ) → s < length of → first_new ≤ slice_index of s → IsMember states s
  pub once : (i j : ℕ) → i < length states → j < length states → slice_index states i ≡ slice_index states j → i ≡ j

-- The active states are the states that a round processes, and a singleton block is a block with one state. The list of
-- the active states is `old` before a call, and `new` after this call. `DropsSingletons` holds if both of the following
-- conditions hold. First, each state in `new` is also in `old`. Second, each state in `old` that is not in `new` is in
-- a singleton block.
pub record DropsSingletons (of old new : List ℕ) : Type 0 where
  pub were : (s : ℕ) → IsMember new s → IsMember old s
  pub are : (s : ℕ) → IsMember old s → IsMember new s ⊎ IsSingleton of s

-- The list `old` contains the signature IDs of all states before a call, and `new` contains their signature IDs after
-- this call. `AreSameOrNone` holds if the signature ID of each state stays the same, or is 0 after the call. The ID 0
-- is the ID of the empty signature.
abbrev pub AreSameOrNone : List ℕ → List ℕ → Type 0
AreSameOrNone old new = (s : ℕ) → (slice_index new s ≡ slice_index old s) ⊎ (slice_index new s ≡ 0)
