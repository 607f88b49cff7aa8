-- Defines how a hash table is represented. Each entry has an ID and a tag, which is a hash of 32 bits and determines
-- the bucket of the entry. Each bucket has a chain, which links the IDs of the entries in this bucket in descending
-- order. To find the entries with a tag, a search goes through the chain of the bucket for this tag.
use Rattle.std.specs.Prelude.{◌≡◌, ℕ, ◌*◌, ◌/◌, ◌^◌, ◌<◌, ◌≤◌, List, map, length, slice_index, slice_index_or}
use Rattle.std.specs.List.{All}
use Rattle.buckets.specs.declared.chains.Entry.{Entry}
use Rattle.buckets.specs.declared.chains.TheConstants.{NO_ENTRY}
use Rattle.buckets.specs.declared.TheConstants.{MOST_ENTRIES}
use Rattle.buckets.specs.Buckets.{tag_at}

-- Returns the tags (hashes of 32 bits) of all entries, in the order of their IDs.
abbrev pub tags_of : List Entry → List ℕ
tags_of entries = map (λ x. x.tag) entries

-- Returns the bucket for a tag (a hash of 32 bits), in a table with the given number of buckets.
abbrev pub bucket_of_tag : ℕ → ℕ → ℕ
bucket_of_tag buckets tag = tag * buckets / 2 ^ 32

-- `IsChained` holds if each bucket has a chain, which links all IDs in the bucket in descending order. The IDs in the
-- chains are the IDs greater than 0 and less than `count`. The function `bucket` maps each ID to its bucket. The list
-- `heads` contains the greatest ID in each bucket, or 0 if the bucket is empty. The function `before` maps each ID to
-- the next smaller ID in the same bucket, or to 0 if there is no smaller ID.
pub record IsChained (count : ℕ) (bucket before : ℕ → ℕ) (heads : List ℕ) : Type 0 where
  pub heads_below : (b : ℕ) → b < length heads → slice_index heads b < count
  pub heads_fit : (b : ℕ) → b < length heads → 0 < slice_index heads b → bucket (slice_index heads b) ≡ b
  pub heads_last : (r : ℕ) → 0 < r → r < count → r ≤ slice_index heads (bucket r)
  pub before_below : (r : ℕ) → 0 < r → r < count → before r < r
  pub before_fit : (r : ℕ) → 0 < r → r < count → 0 < before r → bucket (before r) ≡ bucket r
  pub before_last : (q r : ℕ) → 0 < q → q < r → r < count → bucket q ≡ bucket r → q ≤ before r

-- Returns the entry with the ID r.
abbrev pub entry_at : List Entry → ℕ → Entry
entry_at entries r = slice_index_or entries r NO_ENTRY

-- Returns the bucket of the entry with the ID r. The list `heads` contains one element for each bucket, so that the
-- length of this list is the number of buckets.
abbrev pub entry_bucket : List Entry → List ℕ → ℕ → ℕ
entry_bucket entries heads r = bucket_of_tag (length heads) (entry_at entries r).tag

-- `AreChained` holds if each bucket has a chain, which links all entries in the bucket. The chains contain the entries
-- with IDs greater than 0 and less than `count`. The list `heads` contains the greatest ID in each bucket.
abbrev pub AreChained : ℕ → List Entry → List ℕ → Type 0
AreChained count entries heads = IsChained count (entry_bucket entries heads) (λ r. (entry_at entries r).before) heads

-- `AreBuckets` holds if the hash table is correct: a search by tag finds every entry except the entry with the ID 0. A
-- tag is a hash of 32 bits. The entry with the ID 0 must be in no bucket, and must have the tag 0. There must be from 1
-- to 2^32 - 1 buckets, and from 1 to 2^32 - 1 entries (`MOST_ENTRIES`).
pub record AreBuckets (heads : List ℕ) (entries : List Entry) : Type 0 where
  pub some_buckets : 0 < length heads
  pub few_buckets : length heads < 2 ^ 32
  pub some : 0 < length entries
  pub few : length entries ≤ MOST_ENTRIES
  pub none : tag_at (tags_of entries) 0 ≡ 0
  pub tags : All (λ tag. tag < 2 ^ 32) (tags_of entries)
  pub chained : AreChained (length entries) entries heads

-- `IsInChain` holds if a search for the tag `tag`, which is a hash, may start at the ID r. The first of the two
-- conditions is that the entries and some list of heads together form a correct hash table (`AreBuckets`). The list of
-- heads contains the greatest ID in each bucket. The second condition is that r is 0, or that the entry with the ID r
-- is in the bucket for the tag `tag`.
abbrev pub IsInChain : List Entry → ℕ → ℕ → Type 0
IsInChain entries tag r = (heads : List ℕ) × AreBuckets heads entries
    × (0 < r → entry_bucket entries heads r ≡ bucket_of_tag (length heads) tag)
