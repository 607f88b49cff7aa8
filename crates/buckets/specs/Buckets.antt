use Rattle.std.specs.Prelude.{◌≡◌, ℕ, ◌<◌, List}
use Rattle.std.specs.List.{slice_index_or}

-- `Tagged` is the model of a hash table. It consists of the tag (a hash of 32 bits) of each entry, in the order of the
-- IDs of the entries, and of the number of entries that can be added before more memory is needed.
pub record Tagged : Type 0 where
  pub tags : List ℕ
  pub room : ℕ

-- Returns the tag (a hash of 32 bits) of the entry with the ID r.
abbrev pub tag_at : List ℕ → ℕ → ℕ
tag_at tags r = slice_index_or tags r 0

-- Each entry of a hash table has an ID and a tag, which is a hash of 32 bits. Let `end` be greater than 0. Consider the
-- IDs that are greater than 0 and less than `end`, and whose entries have the tag `tag`. `IsLast` holds if r is the
-- greatest of these IDs, or if there are no such IDs and r is 0.
pub record IsLast (tags : List ℕ) (tag end r : ℕ) : Type 0 where
  pub below : 0 < end → r < end
  pub others : (q : ℕ) → r < q → q < end → tag_at tags q ≡ tag → ⊥
  pub tagged : 0 < r → tag_at tags r ≡ tag
