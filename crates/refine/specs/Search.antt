-- Private. Defines a search that begins at a state and follows inert transitions, which are internal transitions within
-- a block. For each transition of a found state that is not inert, the search collects a pair: the label ID of the
-- transition, and the block ID of its target.
use Rattle.std.specs.Prelude.{◌≡◌, ◌⊎◌, ℕ, ◌<◌, ◌≤◌, Bool, true, false, IsTrue, List, [], ◌∷◌, ◌++◌, length}
use Rattle.std.specs.Prelude.{slice_index, slice_set}
use Rattle.std.specs.Io.{StartsWith}
use Rattle.std.specs.List.{Contains, slice_index_or}
use Rattle.theory.specs.declared.relation.Relation.TheVariants.{Branching}
use Rattle.lts.specs.Lts.{Triple, source_of, target_of, place_at}
use Rattle.inert.specs.Signed.{HasPair, pair_under}
use Rattle.inert.specs.Steps.{Under, IsInert}
use Rattle.inert.specs.Search.{LeadsInertly}
use Rattle.inert.specs.declared.lens.Step.{Step}
use Rattle.inert.specs.declared.lens.Step.TheVariants.{Inert, Shows}
use Rattle.refine_core.specs.Index.{AreMarked, IsUnmarked}

-- `FoundStates` is the data of a search. The list `marked` contains, for each state, the mark of this state, which is
-- true if the search has found the state. The list `states` contains the found states in the order in which they were
-- found. The list `pairs` contains the pairs (label ID, block ID) that the search has collected.
pub record FoundStates : Type 0 where
  pub marked : List Bool
  pub states : List ℕ
  pub pairs : List (ℕ × ℕ)

-- `IsClear` is about the data f of a search in a system with `states` states. It holds if f contains exactly one mark
-- for each state, and no state is marked.
abbrev pub IsClear : ℕ → FoundStates → Type 0
IsClear states f = (length f.marked ≡ states) × IsUnmarked f.marked

-- `WasFound` holds if the state t is marked in the data f of a search, which means that the search has found t.
abbrev pub WasFound : FoundStates → ℕ → Type 0
WasFound f t = IsTrue (slice_index_or f.marked t false)

-- `Reaches` is about the step in which a search reaches the state t. The data of the search is `old` before this step
-- and `new` after it. `Reaches` holds in two cases. In the first case, the search had found t before the step, and
-- `new` equals `old`. In the second case, the search had not found t before the step. Then, in `new`, t is marked and
-- is appended to the list of found states, and nothing else has changed.
abbrev pub Reaches : ℕ → FoundStates → FoundStates → Type 0
Reaches t old new = (WasFound old t × (new ≡ old))
    ⊎ (¬ WasFound old t × (new ≡ record old { marked = slice_set old.marked t true; states = old.states ++ t ∷ [] }))

-- `ExploresStep` is about the step in which a search explores a transition. The data of the search is `old` before this
-- step and `new` after it. If the transition is inert, the search must reach its target (`Reaches`). If the transition
-- is not inert, the search must append the pair of the transition to the collected pairs. This pair consists of the
-- label ID of the transition and the block ID of its target.
abbrev pub ExploresStep : Step → FoundStates → FoundStates → Type 0
ExploresStep (Inert t) old new = Reaches t old new
ExploresStep (Shows a b) old new = new ≡ record old { pairs = old.pairs ++ (a, b) ∷ [] }

-- `IsExplored` holds if a search has explored the transition e. The search began at the state s, and its data is f. If
-- e is inert, the search must have found the target of e. If e is not inert, the search must have collected the pair of
-- e, which consists of the label ID of e and the block ID of its target.
pub record IsExplored (u : Under) (s : ℕ) (f : FoundStates) (e : Triple) : Type 0 where
  pub followed : IsInert u (slice_index u.blocks s) e → WasFound f (target_of e)
  pub shown : ¬ IsInert u (slice_index u.blocks s) e → Contains f.pairs (pair_under u.blocks e)

-- `FindsFrom` is the invariant of a search that began at the state s and has the data f. It holds if all five of the
-- following conditions hold. First, f contains exactly one mark for each state of the system, exactly the found states
-- are marked, and no state was found twice. Second, s is the state that was found first. Third, inert transitions lead
-- from s to each found state. Fourth, each collected pair (label ID, block ID) is in the branching signature of s.
-- Fifth, there are at least `read` found states, and the search has explored all transitions of the first `read` found
-- states (`IsExplored`).
pub record FindsFrom (u : Under) (s : ℕ) (f : FoundStates) (read : ℕ) : Type 0 where
  pub size : length f.marked ≡ u.l.states
  pub marked : AreMarked f.marked f.states
  pub first : (0 < length f.states) × (slice_index f.states 0 ≡ s)
  pub led : (j : ℕ) → j < length f.states → LeadsInertly u s (slice_index f.states j)
  pub few : read ≤ length f.states
  pub own : (z : ℕ × ℕ) → Contains f.pairs z → HasPair Branching u.l u.blocks s z.0 z.1
  pub taken : (j : ℕ) → j < read → (k : ℕ) → k < length u.l.places →
      source_of (place_at u.l.places k) ≡ slice_index f.states j → IsExplored u s f (place_at u.l.places k)

-- `Continues` is about a search that began at the state s. The data of this search was `old` at some point in time, and
-- is `new` now. `Continues` holds if both of the following conditions hold. First, the invariant of the search
-- (`FindsFrom`) holds for `new`, and the search has explored all transitions of the first `read` found states. Second,
-- the list of found states in `new` begins with all found states of `old`.
pub record Continues (u : Under) (s : ℕ) (old new : FoundStates) (read : ℕ) : Type 0 where
  pub search : FindsFrom u s new read
  pub kept : StartsWith new.states old.states
