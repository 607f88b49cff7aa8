-- This file is about the transitions that a reader stores while it reads an input (`Held`). The reader stores a label
-- table, and for each transition a triple: the source, the ID of the label in this table, and the target.
use Rattle.std.specs.Prelude.{◌≡◌, ◌⊎◌, ℕ, ◌<◌, ◌≤◌, List, [], ◌∷◌, ◌++◌, length, map, Contains}
use Rattle.std.specs.List.{All}
use Rattle.theory.specs.System.{Transition, hidden_label, hidden_transition}
use Rattle.lts.specs.Labels.{text_of, IsLabelId, KeepsLabels}
use Rattle.lts.specs.Lts.{Triple, IsTriple, label_of, transition_of}
use Rattle.autfmt.specs.declared.held.Held.{Held}
use Rattle.autfmt.specs.declared.limits.TheConstants.{FILE_TRANSITIONS}

-- `AddsTriple old now s a t` holds if `now` is the result of adding one triple to the stored transitions `old`. All
-- three of the following conditions must hold. First, the triple consists of the source s, the ID of the label a and
-- the target t, and it was appended to the triples of `old`. Second, each label in the label table of `old` has the
-- same ID in the label table of `now`. Third, no label other than a was added to the label table.
pub record AddsTriple (old now : Held) (s : ℕ) (a : List ℕ) (t : ℕ) : Type 0 where
  pub number : ℕ
  pub numbered : IsLabelId now.labels number a
  pub keeps : KeepsLabels old.labels now.labels
  pub known : (k : ℕ) → k < length now.labels → (k < length old.labels) ⊎ (k ≡ number)
  pub items : now.transitions ≡ old.transitions ++ (s, number, t) ∷ []

-- `CanAdd held promised` holds if one more transition can be added to the stored transitions `held`. The argument
-- `promised` is the number of transitions that the header declares. All three of the following conditions must hold.
-- First, fewer than `promised` transitions are stored. Second, `promised` does not exceed the largest number of
-- transitions that is allowed for files. Third, the label table contains at most as many labels as there are stored
-- transitions.
pub record CanAdd (held : Held) (promised : ℕ) : Type 0 where
  pub fewer : length held.transitions < promised
  pub file : promised ≤ FILE_TRANSITIONS
  pub few_labels : length held.labels ≤ length held.transitions

-- `AreShown H labels` holds if no label in the label table `labels` is changed by hiding the labels in the list H.
-- Hiding replaces each label in H by the internal label `i`.
abbrev pub AreShown : List (List ℕ) → (labels : List (List ℕ)) → Type 0
AreShown H labels = (k : ℕ) → k < length labels → hidden_label H (text_of labels k) ≡ text_of labels k

-- `Holds H n held es` holds if all four of the following conditions hold. First, the triples stored in `held` denote
-- the transitions in the list es, after the labels in the list H have been hidden. Second, these triples are
-- transitions of a system with n states. Third, the label table of `held` contains only labels of stored triples.
-- Fourth, hiding the labels in H again changes no label in this table.
pub record Holds (H : List (List ℕ)) (n : ℕ) (held : Held) (es : List Transition) : Type 0 where
  pub hidden : map (transition_of held.labels) held.transitions ≡ map (hidden_transition H) es
  pub among : All (IsTriple (length held.labels) n) held.transitions
  pub carried : (k : ℕ) → k < length held.labels → (e : Triple) × Contains held.transitions e × (label_of e ≡ k)
  pub shown : AreShown H held.labels
