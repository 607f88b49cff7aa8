-- The predecessor index stores, for each state, the transitions that lead to this state. Once this index exists, a
-- round usually begins with a search for the states that the round has to process. The search goes backwards along
-- transitions, which it looks up in the index. This file defines which states the search has to find, and what holds
-- while the search is in progress. The place of a transition is its index in the list of all transitions.
use Rattle.std.specs.Prelude.{◌≡◌, ◌⊎◌, ℕ, ◌≤◌, ◌==◌, Bool, false, IsTrue, List, length, slice_index, slice_index_or}
use Rattle.std.specs.List.{All, IsDistinct}
use Rattle.std.specs.Io.{StartsWith}
use Rattle.theory.specs.System.{Step, internal}
use Rattle.theory.specs.declared.relation.Relation.{Relation}
use Rattle.theory.specs.declared.relation.Relation.TheVariants.{Branching}
use Rattle.theory.specs.Unaffected.{AreEnoughToProcess}
use Rattle.lts.specs.Lts.{Grouped, Triple, source_of, target_of, place_at, system_of}
use Rattle.lts.specs.Incoming.{Entries, IsIndex}
use Rattle.lts.specs.Visited.{HasVisited}
use Rattle.lts.specs.Meter.{Counts, HasRoomFor, Costs}
use Rattle.partition.specs.Splitting.{IsSingleton}
use Rattle.partition.specs.Blocks.{RoundBlocks, AreActive, IsMember}
use Rattle.refine_core.specs.declared.predecessors.Affected.{Affected}

-- `HasIndex` holds if both of the following conditions hold. First, the list `of` contains the block ID of each state
-- of the system `l`. Second, x is a correct predecessor index of this system (`IsIndex`): it stores, for each state,
-- the transitions that lead to this state. For branching bisimilarity, the index must also store the inert transitions
-- to each state separately, in the internal group of this state. An internal transition is inert if its source and its
-- target are in the same block. The internal group may also contain internal transitions that are not inert.
pub record HasIndex (rel : Relation) (l : Grouped) (of : List ℕ) (x : Entries) : Type 0 where
  pub states : length of ≡ l.states
  pub index : IsIndex l (λ p. let e = place_at l.places p in
      (rel ≡ Branching) × (slice_index of (source_of e) ≡ slice_index of (target_of e))) x

-- `IsFoundOrSingleton` holds if the state s is in the list `found` of the states that a search has found, or if s is in
-- a singleton block (a block with one state).
abbrev pub IsFoundOrSingleton : List ℕ → List ℕ → ℕ → Type 0
IsFoundOrSingleton of found s = IsMember found s ⊎ IsSingleton of s

-- Let R be a condition on states. `SourcesSatisfy` holds if the sources of certain steps to the state t satisfy R. The
-- list `of` contains the block ID of each state of the system `l`. If `inert` is false, the source of each step to t
-- must satisfy R. If `inert` is true, the source of each inert step to t must satisfy R. A step is inert if it is
-- internal, and if its source and its target are in the same block.
abbrev pub SourcesSatisfy : Bool → Grouped → List ℕ → ℕ → (ℕ → Type 0) → Type 0
SourcesSatisfy inert l of t R = (s : ℕ) (a : List ℕ) → Step (system_of l) s a t
    → (IsTrue inert → (a ≡ internal) × (slice_index of s ≡ slice_index of t)) → R s

-- `SearchIsComplete` holds if the list `found` of the states that a search has found contains all states whose
-- signatures may have changed (`AreEnoughToProcess`). States in singleton blocks (blocks with one state) need not be
-- found (`IsFoundOrSingleton`). A block is new if the last split has made it, and otherwise it is old. The search has
-- to find the source of each step to a state of a new block. For branching bisimilarity, the search also has to find
-- the states of new blocks, and the source of each inert step to a found state of an old block.
abbrev pub SearchIsComplete : Relation → Grouped → RoundBlocks → List ℕ → Type 0
SearchIsComplete rel l p found = AreEnoughToProcess rel (system_of l) (slice_index p.block_ids) p.first_new
    (IsFoundOrSingleton p.block_ids found)

-- `AreFound` holds if both of the following conditions hold. First, the list `found` contains all states that a search
-- has to find (`SearchIsComplete`). Second, the states in this list are in strictly ascending order.
pub record AreFound (rel : Relation) (l : Grouped) (p : RoundBlocks) (found : List ℕ) : Type 0 where
  pub ascending : AreActive l.states found
  pub complete : SearchIsComplete rel l p found

-- `IsNotLookedUp` holds if no transition to the state t was visited in this round. A visit is a read of a transition
-- that the meter counts. The list `visited` contains the places of the visited transitions. The place of a transition
-- is its index in the list of all transitions.
abbrev pub IsNotLookedUp : List Triple → List ℕ → ℕ → Type 0
IsNotLookedUp places visited t = All (λ k. ¬ (target_of (place_at places k) ≡ t)) visited

-- `HasLookedUp` is about the step of a search that looks up transitions to the state t. The list of the found states is
-- `before` before the step, and `found` after the step. A visit is a read of a transition that the meter counts. The
-- list of the places (indices) of the visited transitions is `old` before the step, and `visited` after the step.
-- `HasLookedUp` holds if all three of the following conditions hold. First, the search has then found the source of
-- each transition to t, or only of each inert transition to t if `inert` is true (`SourcesSatisfy`), except for sources
-- in singleton blocks. Second, the list `found` begins with the list `before`. Third, if a state s differs from t, and
-- no transition to s was visited before the step, then no transition to s was visited during the step.
pub record HasLookedUp (inert : Bool) (l : Grouped) (of : List ℕ) (t : ℕ) (before found old visited : List ℕ) :
    Type 0 where
  pub more : StartsWith found before
  pub sources : SourcesSatisfy inert l of t (IsFoundOrSingleton of found)
  pub others : (s : ℕ) → ¬ (s ≡ t) → IsNotLookedUp l.places old s → IsNotLookedUp l.places visited s

-- `IsUnmarked` holds if no state is marked, which means that no element of the list `marks` is true.
abbrev pub IsUnmarked : List Bool → Type 0
IsUnmarked marks = (s : ℕ) → ¬ IsTrue (slice_index_or marks s false)

-- The state s is marked if the element of the list `marks` at the index s is true. `AreMarked` holds if two conditions
-- hold. First, the marked states are exactly the states in the list `found`. Second, no state is in `found` twice.
pub record AreMarked (marks : List Bool) (found : List ℕ) : Type 0 where
  pub each : All (λ s. IsTrue (slice_index_or marks s false)) found
  pub all : (s : ℕ) → IsTrue (slice_index_or marks s false) → IsMember found s
  pub once : IsDistinct (λ s t. s == t) found

-- The record `at` contains a list of marks, and a list of the states that a search has found. `MarksFound` holds if
-- all three of the following conditions hold. First, the list of marks contains one mark for each state of the system,
-- where `states` is the number of these states. Second, the marked states are exactly the found states, and no state is
-- twice in the list of the found states (`AreMarked`). Third, the length of this list is at most `states`, which
-- follows from the first two conditions.
pub record MarksFound (states : ℕ) (at : Affected) : Type 0 where
  pub size : length at.marks.items ≡ states
  pub marked : AreMarked at.marks.items at.states.items
  pub few : length at.states.items ≤ states

-- `SearchIsOn` holds while a search is in progress. The list `of` must contain the block ID of each state. The record
-- `at` contains the predecessor index, the marks of the states, and the states that were found so far. The predecessor
-- index, which stores the transitions that lead to each state, must be correct (`HasIndex`). Exactly the found states
-- must be marked. The list `xs` must contain the places (indices) of the transitions that were visited so far, and must
-- contain no place twice. A visit is a read of a transition that the meter counts. Since the search began, the meter
-- must have counted one visit for each place in `xs`, and no round. The record `start` contains the counts of the meter
-- when the search began, and `now` contains the present counts of the meter. When the search began, the meter must have
-- had room for one visit of each transition. The last field states a consequence: since the search began, the meter has
-- counted at most one visit for each transition, and no round.
pub record SearchIsOn (l : Grouped) (of : List ℕ) (rel : Relation) (start now : Counts) (at : Affected) (xs : List ℕ) :
    Type 0 where
  pub index : HasIndex rel l of at.index
  pub marked : MarksFound (length of) at
  pub visited : HasVisited l.places start now xs
  pub room : HasRoomFor start 0 (length l.places)
  pub costs : Costs start now 0 0 (length l.places)
