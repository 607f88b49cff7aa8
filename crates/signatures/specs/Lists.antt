-- Defines the model of `Interner`: a sequence of lists of pairs. No two of these lists are equal, and each list is in
-- strictly ascending order. The ID of a list is its index in the sequence.
use Rattle.std.specs.Prelude.{◌≡◌, ℕ, ◌<◌, ◌≤◌, true, List, [], length, slice_index}
use Rattle.std.specs.List.{All, Contains, slice_index_or}
use Rattle.std.specs.List.Sorted.{IsStrictlySortedBy}
use Rattle.std.specs.Ordering.{nat_cmp, ordering_then}
use Rattle.std.specs.Set.{sorted_merge}
use Rattle.std.specs.declared.cmp.Ordering.{Ordering}
use Rattle.signatures.specs.declared.nodes.TheConstants.{MOST_LISTS}

-- Compares two pairs lexicographically: if their first components are equal, their second components are compared.
abbrev pub pair_cmp : ℕ × ℕ → ℕ × ℕ → Ordering
pair_cmp p q = ordering_then (nat_cmp p.0 q.0) (nat_cmp p.1 q.1)

-- Returns the list with the ID k, or the empty list if no list has this ID.
abbrev pub list_at : List (List (ℕ × ℕ)) → ℕ → List (ℕ × ℕ)
list_at lists k = slice_index_or lists k []

-- Merges two lists. If both lists are in ascending order, the result contains the pairs of both lists in ascending
-- order.
abbrev pub merged : List (ℕ × ℕ) → List (ℕ × ℕ) → List (ℕ × ℕ)
merged = sorted_merge pair_cmp true

-- `AreLists` holds if all four of the following conditions hold. First, no two of the lists are equal. Second, each
-- list is in strictly ascending order. Third, there are at most 2^32 - 1 lists (`MOST_LISTS`), so that each ID fits
-- into 32 bits. Fourth, the list with the ID 0 is the empty list.
pub record AreLists (lists : List (List (ℕ × ℕ))) : Type 0 where
  pub ascending : All (IsStrictlySortedBy pair_cmp) lists
  pub some : 1 ≤ length lists
  pub few : length lists ≤ MOST_LISTS
  pub first : list_at lists 0 ≡ []
  pub different : (j k : ℕ) → j < length lists → k < length lists → list_at lists j ≡ list_at lists k → j ≡ k

-- `AreIds` holds if each number in `ids` is the ID of a list in `lists`.
abbrev pub AreIds : List (List (ℕ × ℕ)) → List ℕ → Type 0
AreIds lists ids = All (λ k. k < length lists) ids

-- The argument `old` contains the lists that are stored before a call, and `new` contains the lists that are stored
-- after this call. `Grow` holds if each list of `old` is also in `new`, with the same ID. The call may have added
-- lists.
pub record Grow (old new : List (List (ℕ × ℕ))) : Type 0 where
  pub longer : length old ≤ length new
  pub same : (k : ℕ) → k < length old → list_at new k ≡ list_at old k

-- `HasOne` holds if the pair z is in at least one of the lists whose IDs are in `ids`.
abbrev pub HasOne : List (List (ℕ × ℕ)) → List ℕ → ℕ × ℕ → Type 0
HasOne lists ids z = (j : ℕ) × (j < length ids) × Contains (list_at lists (slice_index ids j)) z
