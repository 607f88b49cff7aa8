-- A reader stores triples whose labels are IDs in a label table. The lemmas in this file are about the triples, about
-- the transitions that the triples denote, and about hiding the labels of a hide list, which contains the labels to
-- hide.
use Rattle.std.proofs.Common.{◌≡◌, ◌↔◌, ℕ, List, [], map, map-id, Contains, arith, ◌<◌, ◌∷◌, ◌++◌, length, sym, inl}
use Rattle.std.proofs.Common.{inr, All, Decides, bytes_eq}
use Rattle.std.specs.List.{list_any}
use Rattle.std.proofs.lemmas.{Bool.cases_Bool, Bool.cond-true, Slice.Eq.bytes_eq-Decides, Map.Made.is_member-Decides}
use Rattle.std.proofs.lemmas.List.Elements.{Contains-get_or, All-push, Contains-append_left, Contains-push}
use Rattle.std.proofs.lemmas.List.{length-map, map_push}
use Rattle.lts.specs.{Labels.IsLabelId, Lts.Triple, Lts.IsTriple, Lts.label_of}
use Rattle.theory.specs.System.{System, internal, hidden_label, Hide, Transition, IsAmong}
use Rattle.lts.proofs.CallerLemmas.{transitions-kept}
use Rattle.autfmt.specs.{declared.held.Held.Held, Held.AddsTriple, Held.AreShown, Held.Holds}

-- ---- Hiding: the result depends only on which labels are in the hide list, and not on their order

-- The search for the label a in the hide list H (a list of the labels to hide) is successful if and only if H contains
-- a.
found_Decides : (H : List (List ℕ)) (a : List ℕ) → Decides (list_any (bytes_eq a) H) (Contains H a)
found_Decides = is_member-Decides bytes_eq-Decides

-- If a label has an ID in a hide list (a list of the labels to hide), then hiding changes this label into the internal
-- label.
pub hidden_label-hidden : (H : List (List ℕ)) (k : ℕ) (a : List ℕ) → IsLabelId H k a → hidden_label H a ≡ internal
hidden_label-hidden H k a n =
    let contained = rw n.text at (Contains-get_or H k [] n.below) in
    cond-true (list_any (bytes_eq a) H) internal a ((found_Decides H a).1 contained)

-- If a hide list (a list of the labels to hide) does not contain a label, then hiding does not change this label.
pub hidden_label-shown : (H : List (List ℕ)) (a : List ℕ) → ¬ Contains H a → hidden_label H a ≡ a
hidden_label-shown H a none = let f = found_Decides H a in grind (arith, f, cases_Bool)

hidden_label-internal : (H : List (List ℕ)) → hidden_label H internal ≡ internal
hidden_label-internal H = grind arith

-- Suppose that the labels of a hide list (a list of the labels to hide) are hidden twice in succession. Then the second
-- hiding changes no label.
pub hidden_label-again : (H : List (List ℕ)) (a : List ℕ) → hidden_label H (hidden_label H a) ≡ hidden_label H a
hidden_label-again H a = let i = hidden_label-internal H in grind (arith, i)

-- Suppose that two hide lists (lists of the labels to hide) contain the same labels. Then hiding with the first list
-- changes each label in the same way as hiding with the second list.
pub hidden_label-same : (H K : List (List ℕ)) → ((a : List ℕ) → Contains H a ↔ Contains K a) → (a : List ℕ) →
    hidden_label H a ≡ hidden_label K a
hidden_label-same H K same a =
    let f = found_Decides H a in let g = found_Decides K a in let s = same a in grind (arith, f, g, s)

-- Suppose that two hide lists (lists of the labels to hide) contain the same labels. If the labels of the first list
-- are hidden in a system, the result is the same system as if the labels of the second list are hidden.
pub Hide-same : (H K : List (List ℕ)) (A : System) → ((a : List ℕ) → Contains H a ↔ Contains K a) → Hide H A ≡ Hide K A
Hide-same H K A same = λ i. record {
  first = A.first;
  states = A.states;
  transitions = map (λ e. record { source = e.source; label = hidden_label-same H K same e.label i; target = e.target })
      A.transitions;
}

-- If the hide list (the list of the labels to hide) is empty, then hiding does not change a system.
pub Hide-none : (A : System) → Hide [] A ≡ A
Hide-none A = λ i. record { first = A.first; states = A.states; transitions = map-id A.transitions i }

-- ---- Stored triples

-- Suppose that the stored triples denote the transitions es, and that a triple for the transition e is added.
module _ {H : List (List ℕ)} {n : ℕ} {old now : Held} (es : List Transition) (e : Transition) (held : Holds H n old es)
    (among : IsAmong n e) (added : AddsTriple old now e.source (hidden_label H e.label) e.target) where
  abbrev triple : Triple
  triple = (e.source, added.number, e.target)

  -- Each label of the new label table occurs in some stored triple.
  carried_more : (k : ℕ) → k < length now.labels → (x : Triple) × Contains now.transitions x × (label_of x ≡ k)
  carried_more k below =
      rw added.items (elim (added.known k below) [
        | inl known ↦ let (x, stored, number) = held.carried k known in
            (x, Contains-append_left old.transitions (triple ∷ []) x stored, number)
        | inr new ↦ (triple, Contains-push old.transitions triple, sym new)
      ])

  shown_more : AreShown H now.labels
  shown_more k below = elim (added.known k below) [
    | inl known ↦ rw (added.keeps.texts k known) (held.shown k known)
    | inr new ↦ rw (new, added.numbered.text) (hidden_label-again H e.label)
  ]

  -- The stored triples denote the transitions es followed by e.
  pub Holds-add : Holds H n now (es ++ e ∷ [])
  Holds-add =
      let still = transitions-kept old.labels now.labels n old.transitions added.keeps held.among in
      let all : All (IsTriple (length now.labels) n) old.transitions = grind (arith, held.among, added.keeps.longer) in
      record {
        hidden = grind (arith, map_push, now.labels, old.transitions, held.hidden, added.numbered.text);
        among = rw added.items (All-push (IsTriple (length now.labels) n) old.transitions triple all
            (record { source = among.source; label = added.numbered.below; target = among.target }));
        carried = carried_more;
        shown = shown_more;
      }

-- If no triples and no labels are stored yet, then the stored triples denote the empty list of transitions.
pub Holds-new : (H : List (List ℕ)) (n : ℕ) (held : Held) → held.labels ≡ [] → held.transitions ≡ [] → Holds H n held []
Holds-new H n held labels none = grind arith

-- The number of stored triples equals the number of transitions that they denote.
pub Holds-length : (H : List (List ℕ)) (n : ℕ) (held : Held) (es : List Transition) → Holds H n held es →
    length held.transitions ≡ length es
Holds-length H n held es h = grind (arith, length-map, held.transitions, held.labels)
