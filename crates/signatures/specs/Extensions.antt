-- Defines how `Interner` stores each list of pairs in two parts: its base, which is a list of pairs that several lists
-- can share, and its extra pairs, which are all other pairs of the list. All bases are stored in one data structure,
-- which is called the trie. Each base has an ID in the trie.
use Rattle.std.specs.Prelude.{◌≡◌, ℕ, ◌+◌, ◌<◌, ◌≤◌, List, [], length, map, slice_index}
use Rattle.std.specs.List.{All, Contains, slice_range, slice_index_or}
use Rattle.std.specs.List.Sorted.{IsStrictlySortedBy}
use Rattle.signatures.specs.declared.extensions.Extension.{Extension}
use Rattle.signatures.specs.declared.extensions.Slot.{Slot}
use Rattle.signatures.specs.declared.extensions.TheConstants.{NO_SLOT}
use Rattle.signatures.specs.declared.table.Table.{Table}
use Rattle.signatures.specs.Lists.{pair_cmp, list_at, merged, Grow}
use Rattle.signatures.specs.Hashed.{tag_of, AreDifferent}

-- `ShareNone` holds if no pair is in both xs and ys.
abbrev pub ShareNone : List (ℕ × ℕ) → List (ℕ × ℕ) → Type 0
ShareNone xs ys = (z : ℕ × ℕ) → Contains xs z → Contains ys z → ⊥

-- `Includes` holds if `list` contains all pairs of `other`.
abbrev pub Includes : List (ℕ × ℕ) → List (ℕ × ℕ) → Type 0
Includes list other = (z : ℕ × ℕ) → Contains other z → Contains list z

-- Returns the two parts in which the list x is stored: the ID of its base, which is a list of pairs that several lists
-- can share, and its extra pairs, which are all other pairs of the list.
abbrev pub parts_of : Extension → ℕ × List (ℕ × ℕ)
parts_of x = (x.base, x.extra.now)

-- `extension_in` returns the list that is stored in the slot x, which is an entry of the table of lists. The list is
-- returned in two parts: the ID of its base, which is a list of pairs that several lists can share, and its extra
-- pairs, which are all other pairs of the list. The slot stores the extra pairs as a range of the buffer `pairs`.
abbrev pub extension_in : List (ℕ × ℕ) → Slot → ℕ × List (ℕ × ℕ)
extension_in pairs x = (x.base, slice_range pairs x.start (x.start + x.count))

-- `all_extensions` returns the lists that are stored in the slots, which are the entries of the table of lists. Each
-- list is returned in two parts: the ID of its base, which is a list of pairs that several lists can share, and its
-- extra pairs, which are all other pairs of the list.
abbrev pub all_extensions : List (ℕ × ℕ) → List Slot → List (ℕ × List (ℕ × ℕ))
all_extensions pairs slots = map (extension_in pairs) slots

-- `AreSlots` holds for the slots, which are the entries of a table of lists, if both of the following conditions hold.
-- First, each slot refers to a range that lies within the buffer `pairs`. Second, there is at least one slot, and the
-- first slot stores the empty list (`NO_SLOT`).
pub record AreSlots (pairs : List (ℕ × ℕ)) (slots : List Slot) : Type 0 where
  pub within : All (λ x. x.start + x.count ≤ length pairs) slots
  pub some : 1 ≤ length slots
  pub first : slice_index_or slots 0 NO_SLOT ≡ NO_SLOT

-- Returns the two parts in which the list with the ID k is stored: the ID of its base, which is a list of pairs that
-- several lists can share, and its extra pairs, which are all other pairs of the list.
abbrev pub extension_at : List (ℕ × List (ℕ × ℕ)) → ℕ → ℕ × List (ℕ × ℕ)
extension_at extensions k = slice_index_or extensions k (0, [])

-- `extended` returns the list that is stored as x in two parts: its base, which is a list of pairs that several lists
-- can share, and its extra pairs, which are all other pairs of the list. The ID of the base in the trie is x.0, and the
-- extra pairs are x.1.
abbrev pub extended : List (List (ℕ × ℕ)) → ℕ × List (ℕ × ℕ) → List (ℕ × ℕ)
extended trie x = merged (list_at trie x.0) x.1

-- `IsExtension` holds if x is a correct form in which a list can be stored. The list is stored in two parts: its base,
-- which is a list of pairs that several lists can share, and its extra pairs, which are all other pairs of the list.
-- The ID of the base is x.0, and the extra pairs are x.1. The following three conditions must hold. First, the trie
-- contains a list with the ID x.0. Second, the extra pairs are in strictly ascending order. Third, no extra pair is in
-- the base.
pub record IsExtension (trie : List (List (ℕ × ℕ))) (x : ℕ × List (ℕ × ℕ)) : Type 0 where
  pub base : x.0 < length trie
  pub ascending : IsStrictlySortedBy pair_cmp x.1
  pub apart : ShareNone (list_at trie x.0) x.1

-- Returns all lists that are stored in `extensions`. Each list is stored in two parts: its base, which is a list of
-- pairs that several lists can share, and its extra pairs, which are all other pairs of the list. The bases are stored
-- in `trie`.
abbrev pub extended_lists : List (List (ℕ × ℕ)) → List (ℕ × List (ℕ × ℕ)) → List (List (ℕ × ℕ))
extended_lists trie extensions = map (extended trie) extensions

-- `AreExtended` holds for the lists that are stored in `extensions` if all four of the following conditions hold.
-- First, each of these lists is stored correctly in two parts: a base, which is a list in `trie` that several lists can
-- share, and extra pairs, which are in ascending order and are not in the base (`IsExtension`). Second, no two of the
-- stored lists are equal. Third, there is a list with the ID 0, whose base has the ID 0 and which has no extra pairs.
-- Fourth, `tags` contains the tag (a hash of 32 bits) of each stored list.
pub record AreExtended (trie : List (List (ℕ × ℕ))) (extensions : List (ℕ × List (ℕ × ℕ))) (tags : List ℕ) : Type 0
  where
    pub each : All (IsExtension trie) extensions
    pub some : 1 ≤ length extensions
    pub first : extension_at extensions 0 ≡ (0, [])
    pub different : AreDifferent (extended_lists trie extensions)
    pub tagged : tags ≡ map tag_of (extended_lists trie extensions)

-- `TableGrows` is about a call that may add lists to two stores: to the trie, and to the table, whose lists refer to
-- lists of the trie. The arguments `old` and `new` are the lists of the trie before and after the call. The arguments
-- `before` and `after` are the table before and after the call. `TableGrows` holds if both of the following conditions
-- hold. First, each list that was in the trie or in the table before the call is also there after the call, with the
-- same ID. Second, all lists of the table are stored correctly after the call (`AreExtended`).
pub record TableGrows (old new : List (List (ℕ × ℕ))) (before after : Table) : Type 0 where
  pub are : AreExtended new after.extensions after.buckets.tags
  pub trie : Grow old new
  pub lists : Grow (extended_lists old before.extensions) (extended_lists new after.extensions)

-- `OneHas` holds if P holds for at least one of the numbers in `ids`.
abbrev pub OneHas : (ℕ → Type 0) → List ℕ → Type 0
OneHas P ids = (j : ℕ) × (j < length ids) × P (slice_index ids j)

-- `HasBase` is about lists that are stored in two parts: a base, which is a list of pairs that several lists can share,
-- and extra pairs, which are all other pairs of the list. `HasBase` holds if the pair z is in the base of at least one
-- list with an ID in `ids`.
abbrev pub HasBase : List (List (ℕ × ℕ)) → List (ℕ × List (ℕ × ℕ)) → List ℕ → ℕ × ℕ → Type 0
HasBase trie extensions ids z = OneHas (λ k. Contains (list_at trie (extension_at extensions k).0) z) ids

-- `HasExtra` is about lists that are stored in two parts: a base, which is a list of pairs that several lists can
-- share, and extra pairs, which are all other pairs of the list. `HasExtra` holds if at least one list with an ID in
-- `ids` satisfies both of the following conditions. First, the pair z is an extra pair of this list. Second, P holds
-- for the ID of the base of this list.
abbrev pub HasExtra : List (ℕ × List (ℕ × ℕ)) → List ℕ → (ℕ → Type 0) → ℕ × ℕ → Type 0
HasExtra extensions ids P z = OneHas (λ k. P (extension_at extensions k).0 × Contains (extension_at extensions k).1 z)
    ids
