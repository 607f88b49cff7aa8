-- Labelled transition systems, their steps and paths, and hiding. Steps and paths are defined as by Milner (1989).
-- Labels, and the internal label, follow the `aut` manual page of CADP.
use Rattle.std.specs.Prelude.{◌≡◌, ℕ, ◌<◌, ◌≤◌, List, [], ◌∷◌, length, map, if◌then◌else◌}
use Rattle.std.specs.List.{All, Contains, list_any}
use Rattle.std.specs.Str.{bytes_eq}

-- `IsLabel` holds if the label a is valid: it consists of 1 to 8000 bytes, and each byte is a printable ASCII
-- character. The space and the quotation mark are printable characters.
pub record IsLabel (a : List ℕ) : Type 0 where
  pub not_empty : 1 ≤ length a
  pub short : length a ≤ 8000
  pub printable : All (λ b. (0x20 ≤ b) × (b ≤ 0x7E)) a

-- `internal` is the label of internal transitions. It consists of the single byte `i`.
abbrev pub internal : List ℕ
internal = 105 ∷ []

-- A transition leads from its source to its target, and has a label.
pub record Transition : Type 0 where
  pub source : ℕ
  pub label : List ℕ
  pub target : ℕ

-- A system consists of a first state, a number of states, and a list of transitions. The list may contain a transition
-- several times.
pub record System : Type 0 where
  pub first : ℕ
  pub states : ℕ
  pub transitions : List Transition

-- States are numbers. `IsAmong` holds if the source and the target of the transition e are less than the number n, and
-- the label of e is valid.
pub record IsAmong (n : ℕ) (e : Transition) : Type 0 where
  pub source : e.source < n
  pub label : IsLabel e.label
  pub target : e.target < n

-- `IsSystem` holds if A is a well-formed system. Its states are the numbers less than the number of states. The first
-- state, and the source and the target of each transition, must be less than the number of states. All labels must be
-- valid.
pub record IsSystem (A : System) : Type 0 where
  pub first : A.first < A.states
  pub transitions : All (IsAmong A.states) A.transitions

-- `Step` holds if the system A has a step with the label a from the state s to the state t (Milner 1989).
abbrev pub Step : System → ℕ → List ℕ → ℕ → Type 0
Step A s a t = Contains A.transitions (record { source = s; label = a; target = t })

-- `Internal` holds if the system A has an internal step from the state s to the state t.
abbrev pub Internal : System → ℕ → ℕ → Type 0
Internal A s t = Step A s internal t

-- `AnyStep` holds if the system A has a step from the state s to the state t, with any label.
abbrev pub AnyStep : System → ℕ → ℕ → Type 0
AnyStep A s t = (a : List ℕ) × Step A s a t

-- A path of a relation R is a sequence of states such that R relates each state to the next state. `Along` holds if the
-- list contains the states of a path of R from the state s to the state t, except for s itself at the beginning. For
-- the empty list, s and t must be equal.
abbrev pub Along : (ℕ → ℕ → Type 0) → ℕ → List ℕ → ℕ → Type 0
Along R s [] t = s ≡ t
Along R s (u ∷ us) t = R s u × Along R u us t

-- A path of a relation R is a sequence of states such that R relates each state to the next state. `Leads` holds if
-- some path of R leads from the state s to the state t. If s and t are equal, the empty path leads from s to t.
abbrev pub Leads : (ℕ → ℕ → Type 0) → ℕ → ℕ → Type 0
Leads R s t = (us : List ℕ) × Along R s us t

-- A silent path is a path of internal steps. `Silent` holds if a silent path leads from the state s to the state t (van
-- Glabbeek and Weijland 1996).
abbrev pub Silent : System → ℕ → ℕ → Type 0
Silent A s t = Leads (Internal A) s t

-- `Reachable` holds if the state s is reachable: some path leads from the first state to s.
abbrev pub Reachable : System → ℕ → Type 0
Reachable A s = Leads (AnyStep A) A.first s

-- `hidden_label` is the label a after hiding the labels in the list H: the internal label if H contains a, and
-- otherwise a itself.
abbrev pub hidden_label : List (List ℕ) → List ℕ → List ℕ
hidden_label H a = if list_any (bytes_eq a) H then internal else a

-- `hidden_transition` is the transition e after hiding the labels in the list H.
abbrev pub hidden_transition : List (List ℕ) → Transition → Transition
hidden_transition H e = record { source = e.source; label = hidden_label H e.label; target = e.target }

-- `Hide` is the system A after hiding: each label that the list H contains is replaced by the internal label.
abbrev pub Hide : List (List ℕ) → System → System
Hide H A = record { first = A.first; states = A.states; transitions = map (hidden_transition H) A.transitions }
