-- Defines two hashes of a list of pairs: the fingerprint, which is a number of 64 bits, and the tag, which is a number
-- of 32 bits. A list is looked up by its tag. Equal lists have equal tags.
use Rattle.std.specs.Prelude.{◌≡◌, ℕ, ◌*◌, ◌/◌, ◌%◌, ◌^◌, ◌<◌, List, map, length}
use Rattle.std.specs.List.{sum_by}
use Rattle.buckets.specs.Hashing.{hash_of}
use Rattle.signatures.specs.declared.hashes.TheConstants.{TAG_FACTOR}
use Rattle.signatures.specs.Lists.{list_at}

-- Returns the fingerprint of a list: the sum of the hashes of its pairs, modulo 2^64.
abbrev pub fingerprint_of : List (ℕ × ℕ) → ℕ
fingerprint_of list = sum_by hash_of list % 2 ^ 64

-- Multiplies a number by the constant `TAG_FACTOR`, modulo 2^64, and returns the upper 32 bits of the product.
abbrev pub mixed : ℕ → ℕ
mixed number = number * TAG_FACTOR % 2 ^ 64 / 2 ^ 32

-- Returns the tag (a hash of 32 bits) of a list. The tag is computed from the fingerprint (a hash of 64 bits) of the
-- list.
abbrev pub tag_of : List (ℕ × ℕ) → ℕ
tag_of list = mixed (fingerprint_of list)

-- `AreDifferent` holds if no two lists with different IDs are equal. The ID of a list is its index in `lists`.
abbrev pub AreDifferent : List (List (ℕ × ℕ)) → Type 0
AreDifferent lists = (j k : ℕ) → j < length lists → k < length lists → list_at lists j ≡ list_at lists k → j ≡ k

-- `IsHashed` holds if all three of the following conditions hold. First, no two of the lists are equal. Second, the
-- element of `sums` at each index k is the fingerprint (a hash of 64 bits) of the list with the ID k. Third, the
-- element of `tags` at each index k is the tag (a hash of 32 bits) of the list with the ID k.
pub record IsHashed (lists : List (List (ℕ × ℕ))) (sums tags : List ℕ) : Type 0 where
  pub are_sums : sums ≡ map fingerprint_of lists
  pub are_tags : tags ≡ map tag_of lists
  pub different : AreDifferent lists

-- `IsNewList` holds if `list` differs from each list in `lists` whose ID is not 0. The ID of a list is its index in
-- `lists`.
abbrev pub IsNewList : List (List (ℕ × ℕ)) → List (ℕ × ℕ) → Type 0
IsNewList lists list = (r : ℕ) → 0 < r → r < length lists → list_at lists r ≡ list → ⊥

-- `IsIdOf` holds if r is an ID other than 0, and if the list with the ID r in `lists` is equal to `list`.
abbrev pub IsIdOf : List (List (ℕ × ℕ)) → List (ℕ × ℕ) → ℕ → Type 0
IsIdOf lists list r = (0 < r) × (r < length lists) × (list_at lists r ≡ list)
