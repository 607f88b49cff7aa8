-- Defines the model of a system in memory. The model contains the label table, and the transitions as triples (source,
-- label ID, target), which are grouped by source.
use Rattle.std.specs.Prelude.{◌≡◌, ◌↔◌, ℕ, ◌+◌, ◌<◌, ◌≤◌, ◌==◌, nat_lt, List, length, map}
use Rattle.std.specs.List.{All, Contains, slice_index_or, slice_range, filter, flat_map, range_with_len}
use Rattle.std.specs.List.Sorted.{IsNonDecreasingBy, IsPermutation}
use Rattle.theory.specs.System.{System, Transition, IsSystem}
use Rattle.memory.specs.declared.limits.TheConstants.{MOST_STATES, MOST_TRANSITIONS}
use Rattle.lts.specs.Labels.{IsTable, text_of}

-- A triple represents a transition. It consists of the source of the transition, the ID of its label, and its target.
abbrev pub Triple : Type 0
Triple = ℕ × ℕ × ℕ

-- Returns the source of a transition.
abbrev pub source_of : Triple → ℕ
source_of e = e.0

-- Returns the label ID of a transition.
abbrev pub label_of : Triple → ℕ
label_of e = e.1

-- Returns the target of a transition.
abbrev pub target_of : Triple → ℕ
target_of e = e.2

-- `Grouped` is the model of an `Lts`, which is a system in memory. It consists of the first state, the number of
-- states, the label table, and the list of all transitions. The place of a transition is its index in this list.
pub record Grouped : Type 0 where
  pub first : ℕ
  pub states : ℕ
  pub labels : List (List ℕ)
  pub places : List Triple

-- The list `places` contains all transitions of a system. Returns the transition at the place k, which is the index of
-- this transition in the list.
abbrev pub place_at : List Triple → ℕ → Triple
place_at places k = slice_index_or places k (0, 0, 0)

-- Returns the transition that the triple e represents. The triple contains the ID of a label in the table `labels`, and
-- the transition contains the bytes of this label.
abbrev pub transition_of : List (List ℕ) → Triple → Transition
transition_of labels e = record { source = source_of e; label = text_of labels (label_of e); target = target_of e }

-- Returns the system whose transitions are represented by the triples es (source, label ID, target). The label IDs in
-- es refer to the table `labels`.
abbrev pub system_from : ℕ → ℕ → List (List ℕ) → List Triple → System
system_from first states labels es =
    record { first = first; states = states; transitions = map (transition_of labels) es }

-- Returns the labelled transition system that an `Lts` with the model g represents.
abbrev pub system_of : Grouped → System
system_of g = system_from g.first g.states g.labels g.places

-- Returns the row of the state s. The row consists of the transitions in the list es with the source s, in the same
-- order as in es.
abbrev pub row_of : ℕ → List Triple → List Triple
row_of s es = filter (λ e. source_of e == s) es

-- Returns the number of transitions in the list es whose source is less than the number s.
abbrev pub before : ℕ → List Triple → ℕ
before s es = length (filter (λ e. nat_lt (source_of e) s) es)

-- Groups the transitions in the list es by source. The result contains, for each of the states from 0 to `states` - 1
-- in ascending order, the transitions in es whose source is this state.
abbrev pub grouped : ℕ → List Triple → List Triple
grouped states es = flat_map (λ s. row_of s es) (range_with_len 0 states)

-- `IsGrouping` holds if the list `places` contains the transitions of the list es in ascending order of their sources.
-- Transitions with the same source are in the same order as in es.
pub record IsGrouping (es places : List Triple) : Type 0 where
  pub ascending : IsNonDecreasingBy source_of places
  pub rows : (s : ℕ) → row_of s places ≡ row_of s es
  pub same : IsPermutation es places

-- `Groups` holds if the system B results from the system A by grouping the transitions by source. So B has the same
-- transitions as A, but in ascending order of their sources. Transitions with the same source are in the same order as
-- in A.
pub record Groups (A B : System) : Type 0 where
  pub first : B.first ≡ A.first
  pub states : B.states ≡ A.states
  pub ascending : IsNonDecreasingBy (λ e. e.source) B.transitions
  pub rows : (s : ℕ) → filter (λ e. e.source == s) B.transitions ≡ filter (λ e. e.source == s) A.transitions
  pub same : IsPermutation A.transitions B.transitions

-- States and label IDs are numbers. `IsTriple` holds if the source and the target of the transition e are less than
-- `states`, and its label ID is less than `labels`.
pub record IsTriple (labels states : ℕ) (e : Triple) : Type 0 where
  pub source : source_of e < states
  pub label : label_of e < labels
  pub target : target_of e < states

-- `InRange` holds if an `Lts` can store the system with `labels` labels, the first state `first`, `states` states and
-- the transitions es. The first state and the states of all transitions must be less than `states`, and the label IDs
-- of all transitions must be less than `labels`. The number of states must be at most `MOST_STATES`, and the number of
-- transitions at most `MOST_TRANSITIONS`.
pub record InRange (labels first states : ℕ) (es : List Triple) : Type 0 where
  pub first_below : first < states
  pub few_states : states ≤ MOST_STATES
  pub few_transitions : length es ≤ MOST_TRANSITIONS
  pub each : All (IsTriple labels states) es

-- `IsLts` is the invariant of an `Lts`, which is a system in memory with the model g. It holds if all four of the
-- following conditions hold. First, the label table is valid (`IsTable`). Second, all states and label IDs are in range
-- (`InRange`). Third, the transitions are in ascending order of their sources. Fourth, the system that g represents is
-- well-formed (`IsSystem`).
pub record IsLts (g : Grouped) : Type 0 where
  pub table : IsTable g.labels
  pub in_range : InRange (length g.labels) g.first g.states g.places
  pub ascending : IsNonDecreasingBy source_of g.places
  pub system : IsSystem (system_of g)

-- `IsBuilt` holds if g is the model of the system with the first state `start`, n states, the label table `table`, and
-- the transitions es. The transitions of g must result from grouping es by source.
pub record IsBuilt (start n : ℕ) (table : List (List ℕ)) (es : List Triple) (g : Grouped) : Type 0 where
  pub first : g.first ≡ start
  pub states : g.states ≡ n
  pub labels : g.labels ≡ table
  pub places : g.places ≡ grouped n es
  pub grouping : IsGrouping es g.places
  pub system : Groups (system_from start n table es) (system_of g)

-- `IsUsedLabel` holds if some transition of the system g has the label with the ID k.
abbrev pub IsUsedLabel : Grouped → ℕ → Type 0
IsUsedLabel g k = (e : Triple) × Contains g.places e × (label_of e ≡ k)

-- `IsRow` holds if the transitions with the source s are exactly the transitions at the places (indices) k with `start`
-- <= k < `end`. The number of transitions whose source is less than s must be `start`, and the number of transitions
-- whose source is at most s must be `end`.
pub record IsRow (places : List Triple) (s start end : ℕ) : Type 0 where
  pub begins : start ≡ before s places
  pub ends : end ≡ before (s + 1) places
  pub within : end ≤ length places
  pub count : end ≡ start + length (row_of s places)
  pub row : slice_range places start end ≡ row_of s places
  pub exactly : (k : ℕ) → k < length places → (source_of (place_at places k) ≡ s) ↔ ((start ≤ k) × (k < end))
