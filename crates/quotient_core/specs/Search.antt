-- Private. Defines the search for the reachable states. The search scans the states in ascending order. When the scan
-- reaches a marked state, the search reads the transitions of this state and marks their targets. If the scan has
-- already passed a state when this state is marked, the state is put into a queue, and its transitions are read later.
-- In the definitions below, the scan has already passed all states that are less than `next`.
use Rattle.std.specs.Prelude.{◌≡◌, ◌⊎◌, ℕ, ◌+◌, ◌<◌, ◌≤◌, Bool, true, false, not, cond, ◌&&◌, nat_lt, List, []}
use Rattle.std.specs.Prelude.{◌∷◌, ◌++◌, length, slice_set}
use Rattle.std.specs.List.{Contains, slice_index_or, filter, sum_by}
use Rattle.theory.specs.System.{Step, Reachable}
use Rattle.lts.specs.Lts.{Triple, source_of, row_of, Grouped, system_of}
use Rattle.lts.specs.Meter.{Counts, Costs}
use Rattle.quotient_core.specs.Numbers.{IsMarked}
use Rattle.quotient_core.specs.declared.search.Search.{Search}

-- `is_ahead` is true if the scan of the search has not yet passed the state s, or if s is not marked. In both cases,
-- the search may still read the transitions of s. The scan goes through the states in ascending order, and has passed
-- the states that are less than `next`.
abbrev pub is_ahead : ℕ → List Bool → ℕ → Bool
is_ahead next marked s = not (nat_lt s next && slice_index_or marked s false)

-- `MarksState` is about the step in which the search marks the state s. The data of the search is `old` before this
-- step and `new` after it. The search scans the states in ascending order, and has passed the states that are less than
-- `next`. In `new`, s must be marked, and the marks of all other states must be the same as in `old`. If s was not
-- marked in `old`, and the scan has already passed s, then s must be appended to the queue. Otherwise, the queue must
-- not change.
pub record MarksState (s next : ℕ) (old new : Search) : Type 0 where
  pub marked : new.marked.items ≡ slice_set old.marked.items s true
  pub queue : new.queue.items
      ≡ old.queue.items ++ cond (nat_lt s next && not (slice_index_or old.marked.items s false)) (s ∷ []) []

-- `Searches` is the invariant of the search for the reachable states. The search scans the states in ascending order,
-- and has passed the states that are less than `next`. The invariant holds if all five of the following conditions
-- hold. First, the list `marked` contains exactly one mark for each state. Second, the first state of the system is
-- marked. Third, each marked state is reachable. Fourth, each state in the queue `waiting` is marked. Fifth, if the
-- scan has passed a marked state, and this state is not in the queue, then all targets of the transitions of this state
-- are marked.
pub record Searches (g : Grouped) (marked : List Bool) (next : ℕ) (waiting : List ℕ) : Type 0 where
  pub size : length marked ≡ g.states
  pub first : IsMarked marked g.first
  pub only_reachable : (s : ℕ) → IsMarked marked s → Reachable (system_of g) s
  pub each_waiting : (s : ℕ) → Contains waiting s → IsMarked marked s
  pub followed : (s t : ℕ) (a : List ℕ) → s < next → IsMarked marked s → Step (system_of g) s a t →
      Contains waiting s ⊎ IsMarked marked t

-- `places_ahead` is the number of transitions that the search may still read. These are the transitions of each state
-- that the scan has not yet passed or that is not marked (`is_ahead`), and the transitions of the states in the queue
-- `waiting`. The scan goes through the states in ascending order, and has passed the states that are less than `next`.
abbrev pub places_ahead : List Triple → ℕ → List Bool → List ℕ → ℕ
places_ahead places next marked waiting =
    length (filter (λ e. is_ahead next marked (source_of e)) places) + sum_by (λ s. length (row_of s places)) waiting

-- `ReadsOnce` holds if both of the following conditions hold. First, the invariant of the search for the reachable
-- states holds (`Searches`). Second, since the search began, the meter has counted no round, and at most v visits
-- (reads of transitions), where v plus the number of transitions that the search may still read (`places_ahead`) is at
-- most the number of all transitions.
pub record ReadsOnce (g : Grouped) (marked : List Bool) (next : ℕ) (waiting : List ℕ) (old new : Counts) : Type 0 where
  pub search : Searches g marked next waiting
  pub visits : (v : ℕ) × Costs old new 0 0 v × (v + places_ahead g.places next marked waiting ≤ length g.places)
