-- These lemmas are about the entries of a hash table. Each entry has a tag, which is a hash. The lemmas show how
-- entries are added, and how entries are found by their tags. The chain of a bucket links all entries in this bucket.
-- The lemmas also show how entries are put into new chains when the number of buckets changes.
use Rattle.std.proofs.Common.{rules, ◌≡◌, ◌∙◌, ℕ, ◌+◌, ◌^◌, ◌<◌, ◌≤◌, List, [], ◌∷◌, ◌++◌, length, get_or, set, refl}
use Rattle.std.proofs.Common.{arith, length-set, get_or-set_same, get_or-set_other}
use Rattle.std.proofs.lemmas.List.{length-map, length_push, map-append, get_or_append_left, get_or_push}
use Rattle.std.proofs.lemmas.{Bool.cases_eq, Grind.common_steps, List.Elements.All-push, List.Elements.All-same}
use Rattle.buckets.specs.Chains.{tags_of, bucket_of_tag, entry_at, entry_bucket, AreBuckets, IsChained, AreChained}
use Rattle.buckets.specs.{declared.chains.Entry.Entry, declared.TheConstants.MOST_ENTRIES, Buckets.tag_at}
use Rattle.buckets.specs.{Buckets.IsLast, declared.chains.TheConstants.NO_ENTRY}
use Rattle.std.proofs.Math.ListN as plain

-- Each bucket has a chain, which links all IDs in this bucket. Suppose that the IDs less than `count` are in the chains
-- of their buckets. If the ID `count` is put at the head of the chain of its bucket, the IDs less than `count` + 1 are
-- in the chains of their buckets (`IsChained`).
module _ (count : ℕ)
    (bucket before bucket' before' : ℕ → ℕ) (heads : List ℕ) (b : ℕ) (chained : IsChained count bucket before heads)
    (some : 0 < count) (in' : b < length heads)
    (buckets : (r : ℕ) → 0 < r → r < count → bucket' r ≡ bucket r)
    (befores : (r : ℕ) → r < count → before' r ≡ before r)
    (fits : bucket' count ≡ b) (head : before' count ≡ get_or heads b 0) where
  pub IsChained-push : IsChained (count + 1) bucket' before' (set heads b count)
  IsChained-push = search rules

pub tag_is : (entries : List Entry) (r : ℕ) → tag_at (tags_of entries) r ≡ (entry_at entries r).tag
tag_is entries r = plain.get_or-map (λ x. x.tag) entries r NO_ENTRY

-- Each entry has an ID and a tag, which is a hash. Let `low` be less than `end`. Suppose that r is the greatest of the
-- IDs up to `low` that have a certain tag. Suppose also that no ID greater than `low` and less than `end` has this tag.
-- Then r is the greatest of the IDs less than `end` that have this tag.
pub IsLast-further : {tags : List ℕ} {tag low end r : ℕ} → IsLast tags tag (low + 1) r → (0 < end → low < end)
    → ((q : ℕ) → low < q → q < end → tag_at tags q ≡ tag → ⊥) → IsLast tags tag end r
IsLast-further {tags} {tag} {low} {end} {r} last within none = search rules

module _ {heads : List ℕ} {entries : List Entry} (is : AreBuckets heads entries) where
  -- Let `first` be the greatest ID in the bucket for a tag (a hash), or 0 if the bucket is empty. If r is the greatest
  -- ID up to `first` with this tag, then r is the greatest of all IDs with this tag.
  pub last_is : {tag b first r : ℕ} → b ≡ bucket_of_tag (length heads) tag → b < length heads → first ≡ get_or heads b 0
      → IsLast (tags_of entries) tag (first + 1) r → IsLast (tags_of entries) tag (length (tags_of entries)) r
  last_is {tag} {b} {first} at_b low head last =
      search (rules, length-map, IsLast-further, is.chained.heads_below, is.chained.heads_last, tag_is)

  -- Each entry has an ID and a tag, which is a hash. Let k be an ID, and let `first` be the greatest ID less than k in
  -- the bucket of k, or 0 if there is no such ID. If r is the greatest ID up to `first` with the tag of k, then r is
  -- the greatest ID less than k with this tag.
  pub before_is : {k r first : ℕ} → 0 < k → k < length entries → first ≡ (entry_at entries k).before
      → IsLast (tags_of entries) (tag_at (tags_of entries) k) (first + 1) r
      → IsLast (tags_of entries) (tag_at (tags_of entries) k) k r
  before_is {k} {r} {first} some low head last =
      let below = is.chained.before_below k some low in
      IsLast-further last (λ some. omega arith) (λ q high in' e.
      grind (arith, is.chained.before_last q k, tag_is entries q, tag_is entries k))

-- Suppose that a hash table that satisfies `AreBuckets` contains fewer than `MOST_ENTRIES` entries. Suppose also that a
-- new entry is put at the head of the chain of its bucket, which links all entries in this bucket. Then the hash table
-- still satisfies `AreBuckets`, which means that every entry except the entry with the ID 0 is found by its tag (a hash
-- of 32 bits).
pub AreBuckets-push : (heads : List ℕ) (entries : List Entry) (new : Entry) (b : ℕ) → AreBuckets heads entries
    → length entries < MOST_ENTRIES → b < length heads
    → new.tag < 2 ^ 32 → b ≡ bucket_of_tag (length heads) new.tag → new.before ≡ get_or heads b 0
    → AreBuckets (set heads b (length entries)) (entries ++ new ∷ [])
AreBuckets-push heads entries new b is few in' low at_b head =
    let count = length entries in
    let all = entries ++ new ∷ [] in
    let longer = length_push entries new in
    let size = length-set heads b count in
    record {
      some_buckets = let some = is.some_buckets in omega arith;
      few_buckets = let few = is.few_buckets in omega arith;
      some = omega arith;
      few = omega arith;
      none = search (rules, map-append, get_or_append_left, length-map, is.none, is.some);
      tags = grind (arith, common_steps, All-same, new.tag, map-append, All-push, is.tags);
      chained =
          let here = get_or_push entries new NO_ENTRY count refl in
          rw longer (IsChained-push count (entry_bucket entries heads) (λ r. (entry_at entries r).before)
          (entry_bucket all (set heads b count)) (λ r. (entry_at all r).before) heads b is.chained is.some in'
          (λ r p h. rw (size, get_or_append_left)) (λ r h. rw get_or_append_left) (rw (size, here, at_b))
          (rw (here, head)));
    }

-- The loop of the function `chain` puts each entry into the chain of its bucket, which links all entries in this
-- bucket. `Rechained` is the invariant of this loop, and holds if all three of the following conditions hold. First, r
-- is greater than 0, and the entries with IDs greater than 0 and less than r are in the chains of their buckets.
-- Second, there are as many buckets and entries as before the loop. Third, each entry has the same tag (hash) as before
-- the loop.
pub record Rechained (old : List Entry) (buckets r : ℕ) (heads : List ℕ) (entries : List Entry) : Type 0 where
  pub some : 0 < r
  pub as_many : length heads ≡ buckets
  pub size : length entries ≡ length old
  pub tags : tags_of entries ≡ tags_of old
  pub chained : AreChained r entries heads

-- The loop of the function `empty_each` empties the bucket of each entry. `Emptied` is the invariant of this loop, and
-- holds if all three of the following conditions hold. First, each bucket whose greatest ID was less than r before the
-- loop is now empty. Second, the buckets that are not empty have not changed. Third, the number of buckets has not
-- changed.
pub record Emptied (old : List ℕ) (r : ℕ) (heads : List ℕ) : Type 0 where
  pub as_many : length heads ≡ length old
  pub left : (b : ℕ) → b < length old → 0 < get_or heads b 0 →
      (get_or heads b 0 ≡ get_or old b 0) × (r ≤ get_or heads b 0)

pub Emptied-more : (old : List ℕ) (entries : List Entry) (r : ℕ) (heads : List ℕ) → AreBuckets old entries →
    Emptied old r heads → (b : ℕ) → b < length old → b ≡ entry_bucket entries old r →
    Emptied old (r + 1) (set heads b 0)
Emptied-more old entries r heads is now b in' at_b = record {
  as_many = length-set heads b 0 ∙ now.as_many;
  left = λ a low some.
      let same = get_or-set_same heads b 0 0 in
      let other = get_or-set_other heads b a 0 0 in
      let fit = is.chained.heads_fit a low in
      grind (arith, cases_eq a b, same, other, now.as_many, now.left a low, fit, cases_eq r (get_or heads a 0));
}
