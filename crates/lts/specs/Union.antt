-- Defines which systems have a disjoint union that can be stored, and how the union is built in memory. The transitions
-- of both systems are appended to one list of triples, whose label IDs refer to one label table. The crate `theory`
-- defines the union itself.
use Rattle.std.specs.Prelude.{◌≡◌, ℕ, ◌+◌, ◌<◌, ◌≤◌, List, ◌++◌, length, map}
use Rattle.std.specs.List.{All, Contains}
use Rattle.theory.specs.System.{Transition}
use Rattle.theory.specs.Union.{shifted}
use Rattle.memory.specs.declared.limits.TheConstants.{MOST_STATES, MOST_TRANSITIONS}
use Rattle.lts.specs.Lts.{Grouped, Triple, label_of, transition_of, IsTriple}

-- `FitTogether` holds if the disjoint union of the systems a and b is small enough to be stored: the total numbers of
-- states and transitions must be within the limits for one system.
pub record FitTogether (a b : Grouped) : Type 0 where
  pub states : a.states + b.states ≤ MOST_STATES
  pub transitions : length a.places + length b.places ≤ MOST_TRANSITIONS

-- The following definitions are private to the module `disjoint`, which computes the union.

-- Suppose that a part of a union has n states and m transitions. `FitsBehind` holds if the system l can be appended to
-- this part: the total number of states and the total number of transitions must be within the limits for one system.
pub record FitsBehind (n m : ℕ) (l : Grouped) : Type 0 where
  pub states : n + l.states ≤ MOST_STATES
  pub transitions : m + length l.places ≤ MOST_TRANSITIONS

-- `IsJoined` is about the part of a union that is already built. This part consists of `states` states, the triples es
-- and the label table `labels`. `IsJoined` holds if all three of the following conditions hold. First, there are at
-- most `MOST_STATES` states. Second, the states and label IDs of all triples are in range. Third, each label in the
-- table is the label of some triple. So the number of labels is at most the number of triples.
pub record IsJoined (labels : List (List ℕ)) (states : ℕ) (es : List Triple) : Type 0 where
  pub few_states : states ≤ MOST_STATES
  pub each : All (IsTriple (length labels) states) es
  pub carried : (k : ℕ) → k < length labels → (e : Triple) × Contains es e × (label_of e ≡ k)
  pub few : length labels ≤ length es

-- States are numbers. `AddsShifted` holds if the triples es represent the same transitions as the triples `old_es`,
-- followed by the transitions ts with the number `shift` added to each of their states. The label IDs in es refer to
-- the table `labels`, and the label IDs in `old_es` refer to the table `old_labels`.
abbrev pub AddsShifted : ℕ → List Transition → List (List ℕ) → List Triple → List (List ℕ) → List Triple → Type 0
AddsShifted shift ts old_labels old_es labels es =
    map (transition_of labels) es ≡ map (transition_of old_labels) old_es ++ map (shifted shift) ts
