-- The label table is modelled as a list of labels. The ID of a label is its index in the list.
use Rattle.std.specs.Prelude.{◌≡◌, ◌⊎◌, ℕ, ◌<◌, ◌≤◌, List, [], ◌∷◌, ◌++◌, length}
use Rattle.std.specs.List.{All, Contains, slice_index_or}
use Rattle.memory.specs.declared.limits.TheConstants.{MOST_LABELS}
use Rattle.theory.specs.System.{IsLabel}

-- Returns the bytes of the label with the ID k in the table `labels`.
abbrev pub text_of : List (List ℕ) → ℕ → List ℕ
text_of labels k = slice_index_or labels k []

-- `IsLabelId` holds if k is the ID of the label a in the table `labels`.
pub record IsLabelId (labels : List (List ℕ)) (k : ℕ) (a : List ℕ) : Type 0 where
  pub below : k < length labels
  pub text : text_of labels k ≡ a

-- `IsTable` is the invariant of label tables. It holds if all three of the following conditions hold. First, each entry
-- of the table is a valid label. Second, different IDs have different labels. Third, there are at most `MOST_LABELS`
-- labels.
pub record IsTable (labels : List (List ℕ)) : Type 0 where
  pub each_label : All IsLabel labels
  pub different : (j k : ℕ) → j < length labels → k < length labels → text_of labels j ≡ text_of labels k → j ≡ k
  pub short : length labels ≤ MOST_LABELS

-- `KeepsLabels` holds if each label in the table `old` has the same ID in the table `new`.
pub record KeepsLabels (old new : List (List ℕ)) : Type 0 where
  pub longer : length old ≤ length new
  pub texts : (k : ℕ) → k < length old → text_of new k ≡ text_of old k

-- To intern a label means to append it to a table, unless the table contains this label already. `Interns` holds if the
-- table `new` results from interning the label a in the table `old`.
abbrev pub Interns : List (List ℕ) → List ℕ → List (List ℕ) → Type 0
Interns old a new = (Contains old a × (new ≡ old)) ⊎ (¬ Contains old a × (new ≡ old ++ a ∷ []))
