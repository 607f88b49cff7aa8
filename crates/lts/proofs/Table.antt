-- Lemmas about the label table and about the disjoint union of two systems. The label table is modelled as a list of
-- labels. The first lemmas state what a search for a label returns, and which labels the table contains after a label
-- was appended. The other lemmas are about the union, which is built by appending the triples (source, label ID,
-- target) of both systems to one list, with one label table for both systems.
use Rattle.std.proofs.Common.{rules, arith, ◌≡◌, ◌∙◌, ℕ, ◌<◌, false, List, [], ◌∷◌, ◌++◌, length, map, Some, Contains}
use Rattle.std.proofs.Common.{sym, ap, position, bytes_eq, suc, ◌+◌, ◌≤◌, take, subst, refl, inl, inr, zero-add}
use Rattle.std.proofs.Common.{All, append_assoc, length-append, map-id}
use Rattle.std.specs.{List.list_any, List.Sorted.IsNonDecreasingBy}
use Rattle.std.proofs.lemmas.{Bool.both_ways, Bool.cases_lt, Slice.Eq.bytes_eq-Decides, List.Folds.list_any_at}
use Rattle.std.proofs.lemmas.{List.Quantifiers.position-Some, Grind.common_steps}
use Rattle.std.proofs.lemmas.List.{length-map, get_or-map, length_push, get_or_push, get_or_append_left, map-append}
use Rattle.std.proofs.lemmas.List.{map_push, take_more}
use Rattle.std.proofs.lemmas.List.Elements.{All-map, Contains-push, Contains-append_left}
use Rattle.theory.specs.{System.IsLabel, System.Transition, Union.shifted, Union.union_of}
use Rattle.memory.specs.declared.limits.TheConstants.{MOST_LABELS}
use Rattle.lts.specs.{Meter.Counts, Meter.Costs, Union.IsJoined, Union.AddsShifted}
use Rattle.lts.specs.Labels.{IsLabelId, IsTable, text_of, KeepsLabels, Interns}
use Rattle.lts.specs.Lts.{Triple, source_of, label_of, target_of, place_at, transition_of, system_of, grouped, IsTriple}
use Rattle.lts.specs.Lts.{IsLts, IsUsedLabel, Grouped, IsBuilt}
use Rattle.lts.proofs.Filters.{mapped_contains}
use Rattle.lts.proofs.Rows.{ascending-append, ascending-map, ascending-from_map, grouped-same}

-- A label table is stored as a list of keys, and the function `bytes` returns the label that a key stores. These lemmas
-- state what a search for a key with the label a reveals: the index of such a key is the ID of a, and if there is no
-- such key, then the table does not contain a.
module _ {V : Type 0} (bytes : V → List ℕ) (a : List ℕ) where
  pub IsLabelId-position : (keys : List V) (k : ℕ) → position (λ v. bytes_eq a (bytes v)) keys ≡ Some k →
      IsLabelId (map bytes keys) k a
  IsLabelId-position [] k e = absurd cc
  IsLabelId-position (v ∷ vs) k e =
      let (low, found, _) = position-Some (λ w. bytes_eq a (bytes w)) (v ∷ vs) k v e in record {
        below = omega (arith, low, length-map (v ∷ vs) bytes);
        text = get_or-map bytes (v ∷ vs) k v [] low ∙ sym ((bytes_eq-Decides a _).0 found);
      }

  pub absent : (keys : List V) → list_any (λ v. bytes_eq a (bytes v)) keys ≡ false → ¬ Contains (map bytes keys) a
  absent keys none c = let (v, has, is) = mapped_contains bytes keys a c in
      both_ways _ none (list_any_at (λ v. bytes_eq a (bytes v)) keys has.0 v has.1
      ((bytes_eq-Decides a _).1 (sym (ap bytes has.2 ∙ is))))

pub IsTable-push : (labels : List (List ℕ)) (a : List ℕ) → IsTable labels → ¬ Contains labels a → IsLabel a →
    length labels < MOST_LABELS → IsTable (labels ++ a ∷ [])
IsTable-push labels a t new is room = search (rules, length_push, get_or_push, get_or_append_left)

-- Suppose that each label of the old label table has the same ID in the new label table. Then the triples (source,
-- label ID, target) represent the same transitions with the new table as with the old table.
pub transitions-kept : (old new : List (List ℕ)) (states : ℕ) (es : List Triple) → KeepsLabels old new →
    All (IsTriple (length old) states) es → map (transition_of new) es ≡ map (transition_of old) es
transitions-kept old new states [] keeps h = refl
transitions-kept old new states (e ∷ es) keeps h = let text = keeps.texts (label_of e) (h 0 e (omega arith)).label in
    let rest = transitions-kept old new states es keeps (λ k d l. h (suc k) d (omega arith)) in
    search rules

-- States are numbers. `HasAppended` holds while the transitions of the system l are appended to a union, with the
-- number `shift` added to each of their states. The label table and the triples were `old_labels` and `old_es` before
-- the first transition of l was appended, and are `labels` and es at present. The first k transitions of l were
-- appended, the part of the union that is built satisfies `IsJoined`, and the meter has counted k visits (reads of
-- transitions). The counts of the meter were `start` before the first of these visits, and are `now` at present.
pub record HasAppended (l : Grouped) (shift : ℕ) (old_labels : List (List ℕ)) (old_es : List Triple)
    (labels : List (List ℕ)) (es : List Triple) (start now : Counts) (k : ℕ) : Type 0 where
  pub joined : IsJoined labels (shift + l.states) es
  pub added : AddsShifted shift (map (transition_of l.labels) (take k l.places)) old_labels old_es labels es
  pub visits : Costs start now 0 k k

-- These lemmas assume that the first k transitions of the system l were appended to a union (`HasAppended`), and that
-- the triple e (source, label ID, target) with the label a is appended next.
module _ {l : Grouped} {shift k : ℕ} {l0 old new : List (List ℕ)} {e0 es : List Triple} {start at : Counts}
    (e : Triple) (a : List ℕ) (has : HasAppended l shift l0 e0 old es start at k) (table : IsTable new)
    (put : Interns old a new) (keeps : KeepsLabels old new) (number : IsLabelId new (label_of e) a) where
  -- If the label a was appended to the label table, it is the label of the triple e. So each label of the table is
  -- still the label of some triple.
  carried_all : (i : ℕ) → i < length new → (x : Triple) × Contains (es ++ e ∷ []) x × (label_of x ≡ i)
  carried_all i h = elim (cases_lt i (length old)) [
    | inl l ↦ let c = has.joined.carried i l in (c.0, Contains-append_left es (e ∷ []) c.0 c.1, c.2)
    | inr l ↦
        let same = table.different (label_of e) i number.below h in
        let grown = length_push {X = List ℕ} in let last = get_or_push {X = List ℕ} in
        (e, Contains-push es e, grind (arith, same, number.text, put, grown, last))
  ]

  -- States are numbers. The triples of a union represent the transitions of the system l with the number `shift` added
  -- to the source and the target of each transition. Suppose that the triple e represents the transition at the index k
  -- in the list of all transitions of l. Suppose also that the meter counts one visit. Then `HasAppended` holds for the
  -- first k + 1 transitions of l after e was appended.
  pub joins_next : (now : Counts) → IsLts l → k < length l.places
      → source_of e ≡ shift + source_of (place_at l.places k) →
      a ≡ text_of l.labels (label_of (place_at l.places k)) → target_of e ≡ shift + target_of (place_at l.places k) →
      Costs at now 0 1 1 → HasAppended l shift l0 e0 new (es ++ e ∷ []) start now (k + 1)
  joins_next now lts h source label target visit =
      let joined = has.joined in let is = lts.in_range.each k (0, 0, 0) h in let added = has.added in
      let kept = transitions-kept old new (shift + l.states) es keeps joined.each in
      let line : transition_of new e ≡ shifted shift (transition_of l.labels (place_at l.places k)) =
      λ i. record { source = source i; label = (number.text ∙ label) i; target = target i } in record {
        joined = grind (arith, common_steps, carried_all);
        added =
            rw (take_more l.places k (0, 0, 0) h)
            (search (rules, map_push, map-append, append_assoc, kept, line, added));
        visits = grind (arith, has.visits, visit);
      }

-- Suppose that triples for the transitions us are appended to the list of triples. Then the number of triples increases
-- by the number of transitions in us.
pub AddsShifted-length : {X : Type 0} (shift : ℕ) (f : X → Transition) (us : List X) (l0 l1 : List (List ℕ))
    (e0 e1 : List Triple) → AddsShifted shift (map f us) l0 e0 l1 e1 → length e1 ≡ length e0 + length us
AddsShifted-length shift f us l0 l1 e0 e1 h = let size = ap length h in search (rules, size, length-append, length-map)

-- The sources of the transitions of a union are in ascending order, because the states of the second system come after
-- the states of the first system.
ascending-union : (a b : Grouped) → IsLts a → IsLts b →
    IsNonDecreasingBy (λ e. e.source) ((union_of (system_of a) (system_of b)).transitions)
ascending-union a b la lb =
    ascending-append (λ e. e.source) a.states (map (transition_of a.labels) a.places)
    (map (shifted a.states) (map (transition_of b.labels) b.places))
    (λ k d h. let s = (la.system.transitions k d h).source in omega arith)
    (All-map (λ e. a.states ≤ e.source) (shifted a.states) _ (λ k d h. omega arith))
    (search (rules, ascending-map, la.ascending))
    (ascending-map (λ e. e.source) (shifted a.states) (map (transition_of b.labels) b.places)
    (ascending-map (λ e. a.states + e.source) (transition_of b.labels) b.places
    (λ i j d h l. omega (arith, lb.ascending i j d h l))))

-- `IsUnion` holds if u is the disjoint union of the systems a and b, and each label in the table of u is the label of
-- some transition.
abbrev pub IsUnion : Grouped → Grouped → Grouped → Type 0
IsUnion a b u = (system_of u ≡ union_of (system_of a) (system_of b)) × ((k : ℕ) → k < length u.labels → IsUsedLabel u k)

-- Suppose that the triples es represent the transitions of the disjoint union of the systems a and b. Then the system
-- that is built from these triples is the disjoint union of a and b.
module _ (a b : Grouped) (labels : List (List ℕ)) (es : List Triple) (la : IsLts a) (lb : IsLts b)
    (g : IsJoined labels (a.states + b.states) es) (both : map (transition_of labels) es
    ≡ (union_of (system_of a) (system_of b)).transitions) where
  union-places : grouped (a.states + b.states) es ≡ es
  union-places =
      grouped-same (a.states + b.states) es (ascending-from_map (λ e. e.source) (transition_of labels) es
      (subst (IsNonDecreasingBy (λ e. e.source)) (sym both) (ascending-union a b la lb)))
      (λ k d h. (g.each k d h).source)

  pub union-made : (u : Grouped) → IsBuilt a.first (a.states + b.states) labels es u → IsUnion a b u
  union-made u made = (
    search (rules, union-places),
    λ k h.
        let c = g.carried k (omega (arith, ap length made.labels)) in
        (c.0, subst (λ es'. Contains es' c.0) (sym (made.places ∙ union-places)) c.1, c.2),
  )

-- Suppose that triples for the transitions of the first system are appended to an empty list, and that triples for the
-- transitions of the second system are appended after them. Then the resulting triples represent the transitions of the
-- union.
pub AddsShifted-both : (n : ℕ) (ts us : List Transition) (l0 l1 l2 : List (List ℕ)) (e0 e1 e2 : List Triple) → e0 ≡ [] →
    AddsShifted 0 ts l0 e0 l1 e1 → AddsShifted n us l1 e1 l2 e2 → map (transition_of l2) e2 ≡ ts ++ map (shifted n) us
AddsShifted-both n ts us l0 l1 l2 e0 e1 e2 none a b =
    let same : (t : Transition) → shifted 0 t ≡ t =
    λ t i. record { source = zero-add t.source i; label = t.label; target = zero-add t.target i } in
    let first : map (shifted 0) ts ≡ ts = (λ i. map (λ t. same t i) ts) ∙ map-id ts in search (rules, first)
