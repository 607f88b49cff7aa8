-- Private. Defines the transitions of the quotient as triples (source, label ID, target), which are called quotient
-- transitions below. The source and the target of a quotient transition are numbers of quotient states.
use Rattle.std.specs.Prelude.{◌≡◌, ◌↔◌, ℕ, ◌≤◌, ◌==◌, ◌&&◌, Bool, false, not, IsTrue, Option, None, Some, List, length}
use Rattle.std.specs.Prelude.{map, slice_index}
use Rattle.std.specs.List.{Contains, filter, slice_index_or}
use Rattle.lts.specs.Lts.{Triple, Grouped, source_of, label_of, target_of, row_of}
use Rattle.quotient_core.specs.declared.numbering.Numbering.{Numbering}

-- If the state s is reachable, `number_of` returns the number of the quotient state that represents s.
abbrev pub number_of : Numbering → ℕ → ℕ
number_of n s = slice_index n.numbers.items s

-- `between_numbers` returns the triple that comes from the transition e of the state s. In this triple, s and the
-- target of e are replaced by the numbers of the quotient states that represent them.
abbrev pub between_numbers : Numbering → ℕ → Triple → Triple
between_numbers n s e = (number_of n s, label_of e, number_of n (target_of e))

-- `is_left_out` is true if the quotient leaves out the triple x (source, label ID, target). The first argument is the
-- ID of the label that the quotient drops, or `None` if the quotient drops no label. The quotient leaves out x if the
-- label ID of x is the ID of the dropped label, and the source of x equals its target.
abbrev pub is_left_out : Option ℕ → Triple → Bool
is_left_out None x = false
is_left_out (Some k) x = (label_of x == k) && (source_of x == target_of x)

-- `shown_by` returns the list of the quotient transitions (transitions between quotient states) that come from the
-- transitions of the state s. The list contains no triples that the quotient leaves out (`is_left_out`).
abbrev pub shown_by : Grouped → Numbering → ℕ → List Triple
shown_by g n s = filter (λ x. not (is_left_out n.dropped x)) (map (between_numbers n s) (row_of s g.places))

-- `is_reached` is true if the state s is marked as reachable in the record n.
abbrev pub is_reached : Numbering → ℕ → Bool
is_reached n s = slice_index_or n.reached.items s false

-- `is_member` is true if the state s is reachable and the quotient state i represents s.
abbrev pub is_member : Numbering → ℕ → ℕ → Bool
is_member n i s = is_reached n s && (number_of n s == i)

-- `ShowEachOther` is about any two reachable states s and t that the same quotient state represents. The quotient
-- transitions of a state are the transitions between quotient states that come from the transitions of this state
-- (`shown_by`). Suppose that s has as many quotient transitions as it has transitions, so that no transition of s is
-- left out. Then each quotient transition of t must also be a quotient transition of s.
abbrev pub ShowEachOther : Grouped → Numbering → Type 0
ShowEachOther g n = (s t : ℕ) → IsTrue (is_reached n s) → IsTrue (is_reached n t) → number_of n s ≡ number_of n t →
    length (shown_by g n s) ≡ length (row_of s g.places) →
    (x : Triple) → Contains (shown_by g n t) x → Contains (shown_by g n s) x

-- `rows_of` returns the transitions in the list `places` whose source satisfies the predicate `of`.
abbrev pub rows_of : (ℕ → Bool) → List Triple → List Triple
rows_of of places = filter (λ e. of (source_of e)) places

-- `HasShown` holds if both of the following conditions hold. First, the list `shown` contains exactly the quotient
-- transitions (transitions between quotient states) of the states that satisfy the predicate `of`. Second, the length
-- of `shown` is at most the number of transitions of these states.
pub record HasShown (g : Grouped) (n : Numbering) (of : ℕ → Bool) (shown : List Triple) : Type 0 where
  pub exactly : (x : Triple) → Contains shown x ↔ ((s : ℕ) × IsTrue (of s) × Contains (shown_by g n s) x)
  pub few : length shown ≤ length (rows_of of g.places)
