-- Defines the class numbers of the reachable states. The class number of a reachable state is the number of the
-- quotient state that represents this state. Public contracts cite `IsMarked` and `AreClasses`.
use Rattle.std.specs.Prelude.{◌≡◌, ◌≢◌, ◌⊎◌, ◌↔◌, ℕ, ◌<◌, ◌≤◌, Bool, true, false, IsTrue, [], ◌∷◌, ◌++◌, List, length}
use Rattle.std.specs.List.{slice_index, slice_index_or, slice_set}
use Rattle.theory.specs.System.{Reachable}
use Rattle.theory.specs.Bisimulation.{Bisimilar}
use Rattle.theory.specs.declared.relation.Relation.{Relation}
use Rattle.theory.specs.Blocks.{EachTwo}
use Rattle.theory.specs.Quotient.{HowMany, IsLeader, Number, IsDropped}
use Rattle.lts.specs.Lts.{Grouped, Triple, transition_of, system_of}
use Rattle.quotient_core.specs.Triples.{number_of, is_reached, is_left_out}
use Rattle.quotient_core.specs.declared.numbering.Numbering.{Numbering}
use Rattle.quotient_core.specs.declared.numbering.Numbers.{Numbers}
use Rattle.quotient_core.specs.declared.numbering.TheConstants.{NONE}

-- `IsMarked` holds if the list `marked` contains a mark for the state s, and this mark is true.
abbrev pub IsMarked : List Bool → ℕ → Type 0
IsMarked marked s = IsTrue (slice_index_or marked s false)

-- `AreClasses` holds if two states of the system g are in the same block if and only if they are bisimilar for the
-- relation `rel`. The list `blocks` contains the block ID of each state.
abbrev pub AreClasses : Relation → Grouped → List ℕ → Type 0
AreClasses rel g blocks = let A = system_of g in
    EachTwo A (λ s t. (slice_index blocks s ≡ slice_index blocks t) ↔ Bisimilar rel A s A t)

-- `AreNumbered` is about the record n, which contains a block ID, a mark and a class number for each of `states`
-- states, and a block ID for each class (`classes`). The mark of a state is true if the state is reachable. The class
-- number of a reachable state is the number of the quotient state that represents this state. `AreNumbered` holds if
-- all three of the following conditions hold. First, the lists of block IDs, of marks and of class numbers each have
-- `states` entries. Second, each block ID in `classes` is less than the number of blocks. Third, the list `classes`
-- contains the block ID of each marked state at one index only, and this index is the class number of the state.
pub record AreNumbered (states : ℕ) (n : Numbering) : Type 0 where
  pub blocks_long : length n.blocks.block_ids ≡ states
  pub reached_long : length n.reached.items ≡ states
  pub numbers_long : length n.numbers.items ≡ states
  pub classes_below : (i : ℕ) → i < length n.classes.items → slice_index n.classes.items i < n.blocks.count
  pub class : (s i : ℕ) → IsTrue (is_reached n s) → (number_of n s ≡ i)
      ↔ ((i < length n.classes.items) × (slice_index n.classes.items i ≡ slice_index n.blocks.block_ids s))

-- `IsNumbering` holds if all six of the following conditions hold. First, the lists in n fit together (`AreNumbered`).
-- Second, exactly the reachable states are marked (`is_reached`). Third, the class number of each reachable state is
-- the number of the quotient state that represents it (`Number`). Fourth, there are as many classes as leaders, which
-- are the states that represent classes (`IsLeader`). Fifth, there are at most as many classes as states. Sixth, a
-- triple is left out (`is_left_out`) if and only if the quotient drops its transition (`IsDropped`).
pub record IsNumbering (rel : Relation) (g : Grouped) (n : Numbering) : Type 0 where
  pub numbered : AreNumbered g.states n
  pub reached : (s : ℕ) → IsTrue (is_reached n s) ↔ Reachable (system_of g) s
  pub number : (s : ℕ) → Reachable (system_of g) s → Number rel (system_of g) s (number_of n s)
  pub counted : HowMany (IsLeader rel (system_of g)) (length n.classes.items)
  pub few : length n.classes.items ≤ g.states
  pub drops : (x : Triple) → (is_left_out n.dropped x ≡ true) ↔ IsDropped rel (transition_of g.labels x)

-- `TakesState` is about one step of the loop that assigns class numbers to the states. The class number of a reachable
-- state is the number of the quotient state that represents this state. The step processes the next state, which is in
-- the block b, and is reachable if `reached` is true. The data of the loop is `old` before the step and `new` after it.
-- `TakesState` holds if both of the following conditions hold. First, if the state is reachable and its block has no
-- class number in `old`, then the block has the next class number in `new`, and is appended to the list of classes.
-- Otherwise, the table `by_block` and the list of classes do not change. Second, the entry that the table `by_block` of
-- `new` contains for the block is appended to the class numbers of the states.
pub record TakesState (b : ℕ) (reached : Bool) (old new : Numbers) : Type 0 where
  pub numbers : new.numbers.items ≡ old.numbers.items ++ slice_index new.by_block.items b ∷ []
  pub classes :
      (IsTrue reached × (slice_index old.by_block.items b ≡ NONE) × (new.classes.items ≡ old.classes.items ++ b ∷ [])
      × (new.by_block.items ≡ slice_set old.by_block.items b (length old.classes.items)))
      ⊎ ((IsTrue reached → slice_index old.by_block.items b ≢ NONE) × (new.classes.items ≡ old.classes.items)
      × (new.by_block.items ≡ old.by_block.items))
