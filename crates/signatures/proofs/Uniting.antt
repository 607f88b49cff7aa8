-- The first lemmas are about unions of lists that are computed list by list. They also show that a list which is the
-- union of two stored lists is still their union when more lists are stored. The next lemmas compute the union of two
-- lists by halves. The split point of a list is the number at which the list is divided into two halves. To compare a
-- pair (x, y) with the split point, the pair is represented by the number x * 2^32 + y (`pair_value`). The first half
-- contains the pairs that are less than the split point, and the second half contains all other pairs. To compute the
-- union of two lists, each of the two lists is divided at the split point of the union into a lower and an upper part.
-- The union of the two lower parts is the first half of the result, and the union of the two upper parts is the second
-- half. If two lists have no pair in common, the fingerprint (a hash of 64 bits) of their union is the sum of their
-- fingerprints, modulo 2^64. The last lemmas are about the union cache, which is a hash table of unions that were
-- computed before. Each entry of the cache contains the IDs of two lists and the ID of their union.
use Rattle.std.specs.{Set.is_member, Ordering.eq_by_cmp, List.Sorted.IsStrictlySortedBy}
use Rattle.std.proofs.Common.{filter, Bool, ◌≡◌, ◌⊎◌, ◌↔◌, ℕ, ◌+◌, ◌-◌, ◌<◌, min, max, List, [], ◌++◌, length, sym}
use Rattle.std.proofs.Common.{subst, refl, inr, arith, rules, length-append, append-nil, ◌∙◌, ◌%◌, ◌^◌, Contains, ap}
use Rattle.std.proofs.Common.{inl, sum_by, map, set, replicate, Result, IfOk, All}
use Rattle.std.proofs.lemmas.List.{map-set, Kept.IsStrictlySortedBy-filter, Elements.All-map, Elements.All-replicate}
use Rattle.std.proofs.lemmas.{List.Filters.sum_by-filter_both, Bool.cases_Bool, Bool.cases_lt}
use Rattle.signatures.proofs.Ascending.{has_pair, passing_has, is_lacking, merged_ascending, merged_has}
use Rattle.signatures.{proofs.Ascending.ascending_fewer, proofs.Ascending.ascending_unique, specs.Hashed.fingerprint_of}
use Rattle.signatures.specs.{Extensions.ShareNone, declared.nodes.Halves.Halves, declared.nodes.TheConstants.MOST_WHOLE}
use Rattle.signatures.specs.{Lists.pair_cmp, Lists.list_at, Lists.merged, Lists.Grow, Nodes.IsHalved, Nodes.AreHalvesIn}
use Rattle.signatures.specs.Cuts.{IsCutPoint, IsAlike, IsCut, IsUnder, IsOver, IsParted, Fit}
use Rattle.signatures.specs.Unions.{Unites, IsSplit, union_entry, IsNone, IsUnion, AreUnions}
use Rattle.signatures.specs.declared.union_cache.{Union.Union, TheConstants.NO_UNION}
use Rattle.signatures.proofs.Cuts.{alike_wider, halves_has, parts_has, parts_shorter, HasEnds, IsCut-ends}
use Rattle.signatures.proofs.Cuts.{HasEnds-union, AreHalvesIn-parts, halves_ascending, parts_both}
use Rattle.buckets.specs.Hashing.{hash_of}
use native.Mathlib.Nat.{add-mod}

pub or_swap : {A B C : Type 0} → A ↔ (B ⊎ C) → A ↔ (C ⊎ B)
or_swap f = search rules

pub same_as : {A B C : Type 0} → A ↔ B → B ↔ C → A ↔ C
same_as f g = search rules

pub either_same : {N M H E K : Type 0} → N ↔ (M ⊎ E) → M ↔ H → (H ⊎ E) ↔ K → N ↔ K
either_same new old more = search rules

-- `SomeBelow` holds if P holds for some number less than i.
abbrev pub SomeBelow : (ℕ → Type 0) → ℕ → Type 0
SomeBelow P i = (j : ℕ) × (j < i) × P j

-- P holds for some number less than i + 1 if and only if P holds for i or for some number less than i.
pub up_to_more : (P : ℕ → Type 0) (i : ℕ) → (SomeBelow P i ⊎ P i) ↔ SomeBelow P (i + 1)
up_to_more P i = search rules

-- Suppose that each list of `old` is also in `new`, with the same ID. Suppose also that the list with the ID i in `new`
-- is the union of the lists with the IDs j and k in `old`. Then this list is also the union of the lists with the IDs j
-- and k in `new` (`IsUnion`).
pub IsUnion-grown : {old new : List (List (ℕ × ℕ))} {j k i : ℕ} → Grow old new → j < length old → k < length old
    → i < length new → Unites (list_at new i) (list_at old j) (list_at old k) → IsUnion new (j, k) i
IsUnion-grown {j} {k} grow first second within exactly =
    search (rules, grow.longer, rw (← grow.same j first, ← grow.same k second) at exactly)

-- Suppose that each entry of a list of unions contains the IDs of two stored lists, and the ID of the stored list that
-- is their union (`AreUnions`). If more lists are stored, each entry is still correct.
pub AreUnions-grow : {old new : List (List (ℕ × ℕ))} → Grow old new → (unions : List ((ℕ × ℕ) × ℕ))
    → AreUnions old unions → AreUnions new unions
AreUnions-grow grow unions are z c =
    let is = are z c in
    IsUnion-grown grow is.first is.second (omega (arith, is.within, grow.longer))
    (rw (grow.same _ is.within) is.exactly)

-- Each pair (x, y) is represented by the number x * 2^32 + y (`pair_value`). Suppose that the numbers for all pairs of
-- a list are less than c. Then c divides the list into the whole list and the empty list. Suppose instead that the
-- numbers for all pairs of the list are at least c. Then c divides the list into the empty list and the whole list.
pub IsParted-under : {list : List (ℕ × ℕ)} {c : ℕ} → IsUnder list c → IsParted list c list []
IsParted-under {list} under = record { joined = sym (append-nil list); under = under; over = search rules }

pub IsParted-over : {list : List (ℕ × ℕ)} {c : ℕ} → IsOver list c → IsParted list c [] list
IsParted-over over = record { joined = refl; under = search rules; over = over }

-- Suppose that a list is stored as two halves. Then the list has more than 64 pairs (`MOST_WHOLE`). The number that is
-- stored with the halves is the number at which the list has to be divided (`IsCut`). One half contains the pairs whose
-- numbers (`pair_value`) are less than the stored number, and the other half contains the other pairs.
module _ {lists : List (List (ℕ × ℕ))} {k : ℕ} {h : Halves} (is : IsHalved lists k h) where
  pub halved_long : MOST_WHOLE < length (list_at lists k)
  halved_long = search (rules, is.halves.long, is.list, length-append, h.below, h.above)

  pub halved_cut : IsCut (list_at lists k) h.cut
  halved_cut = subst (λ l. IsCut l h.cut) (sym is.list) is.halves.at_cut

  pub halved_parted : IsParted (list_at lists k) h.cut (list_at lists h.below) (list_at lists h.above)
  halved_parted = record { joined = is.list; under = is.halves.under; over = is.halves.over }

  pub ends_halves : HasEnds (list_at lists k) (h.cut - 1) h.cut
  ends_halves = record {
    before = (halved_cut.below.0, halved_cut.below.1, omega (arith, halved_cut.below.2));
    after = halved_cut.above;
    alike = λ bit l h c place under over. alike_wider _ bit l h c _ place halved_cut (omega arith) (omega arith);
  }

-- Suppose that the number c divides the list with the ID k into two interned lists: the lower part with the ID `below`,
-- and the upper part with the ID `above`. Suppose also that all interned lists are in `mid` and in `new`, with the same
-- IDs. Then the lower part is the list with the ID `below` in `mid`, and the upper part is the list with the ID `above`
-- in `new`.
pub parted_grown : {lists mid new : List (List (ℕ × ℕ))} {k c below above : ℕ} → Grow lists mid → Grow lists new
    → IsSplit lists k c below above → k < length lists
    → IsParted (list_at lists k) c (list_at mid below) (list_at new above)
parted_grown {below} {above} first second is low = search rules

-- `AreUnited` holds if the union of xs and ys is a long list, if the two halves of the union are stored in `lists`, and
-- if h contains the IDs of these two halves. A long list is a list of more than 64 pairs (`MOST_WHOLE`). The union is
-- divided into its two halves at the number `h.cut`.
abbrev pub AreUnited : List (List (ℕ × ℕ)) → Halves → List (ℕ × ℕ) → List (ℕ × ℕ) → Type 0
AreUnited lists h xs ys = AreHalvesIn lists h × Unites (list_at lists h.below ++ list_at lists h.above) xs ys

either_mixed : {W L U B C A D X Y : Type 0} → W ↔ (L ⊎ U) → L ↔ (B ⊎ C) → U ↔ (A ⊎ D) → X ↔ (B ⊎ A) →
    Y ↔ (C ⊎ D) → W ↔ (X ⊎ Y)
either_mixed whole low high first second = search rules

-- These lemmas are about two lists xs and ys of pairs. The number c divides each of these lists into a lower part,
-- which contains the pairs whose numbers (`pair_value`) are less than c, and an upper part, which contains the other
-- pairs.
module _ {xs ys below above below' above' : List (ℕ × ℕ)} {c : ℕ} (first : IsParted xs c below above)
    (second : IsParted ys c below' above') where
  -- The number c divides each of the lists xs and ys into a lower part, which contains the pairs whose numbers
  -- (`pair_value`) are less than c, and an upper part, which contains the other pairs. Suppose that `lower` is the
  -- union of the two lower parts, and that `upper` is the union of the two upper parts. Then `lower` followed by
  -- `upper` is the union of xs and ys. All pairs of `lower` are less than c, and all pairs of `upper` are at least c.
  module _ (lower upper : List (ℕ × ℕ)) (low : Unites lower below below') (high : Unites upper above above') where
    pub united : Unites (lower ++ upper) xs ys
    united z = either_mixed (halves_has lower upper z) (low z) (high z) (parts_has first z) (parts_has second z)

    pub united_parted : IsParted (lower ++ upper) c lower upper
    united_parted = record {
      joined = refl;
      under = λ z d. grind (arith, low z, first.under z, second.under z);
      over = λ z d. grind (arith, high z, first.over z, second.over z);
    }

  -- Let c be the number at which the union of the lists xs and ys is divided into two halves (`IsCut`). Then c divides
  -- each of xs and ys into a lower part, which contains the pairs whose numbers (`pair_value`) are less than c, and an
  -- upper part, which contains the other pairs. The two lower parts together have fewer pairs than xs and ys together.
  -- The two upper parts together also have fewer pairs than xs and ys together.
  pub parts_fewer : ((list : List (ℕ × ℕ)) → Unites list xs ys → IsCut list c)
      → (length below + length below' < length xs + length ys) × (length above + length above' < length xs + length ys)
  parts_fewer cuts =
      let low = halves_has below below' in
      let high = halves_has above above' in
      let shorter = parts_shorter (united_parted _ _ low high) (cuts _ (united _ _ low high)) in
      grind (arith, length-append, shorter, first.joined, second.joined)

  -- Let c be the number at which the union of the lists xs and ys is divided into two halves (`IsCut`). Then c divides
  -- each of xs and ys into a lower part, which contains the pairs whose numbers (`pair_value`) are less than c, and an
  -- upper part, which contains the other pairs. Suppose that ys is in strictly ascending order and has more than 64
  -- pairs (`MOST_WHOLE`). Then the first half of the union is the union of the two lower parts, and the second half of
  -- the union is the union of the two upper parts.
  pub AreUnited-parts : {mid new : List (List (ℕ × ℕ))} {b a : ℕ} → Grow mid new
      → b < length mid → Unites (list_at mid b) below below' → a < length new → Unites (list_at new a) above above'
      → IsStrictlySortedBy pair_cmp ys → MOST_WHOLE < length ys
      → ((list : List (ℕ × ℕ)) → Unites list xs ys → IsCut list c)
      → AreUnited new (record { below = b; above = a; cut = c }) xs ys
  AreUnited-parts {new} {b} {a} grow low_in lower high_in high ascending long cut =
      let low = subst (λ l. Unites l below below') (sym (grow.same b low_in)) lower in
      let all = united _ _ low high in
      let fewer = ascending_fewer ys _ ascending (λ z d. (all z).1 (inr d)) in
      let parted = united_parted _ _ low high in
      (AreHalvesIn-parts (omega (arith, grow.longer)) high_in parted (cut _ all) (omega arith), all)

-- The split point of a list is the number at which the list is divided into two halves (`IsCut`). The condition
-- `HasEnds` relates a list of pairs to two numbers. Suppose that `HasEnds` holds for the list xs with the numbers `low`
-- and `high`, and for the list ys with the numbers `low'` and `high'`. Let l be the lesser of `low` and `low'`, and let
-- h be the greater of `high` and `high'`. Among all numbers that are greater than l and at most h, let c be the number
-- that is divisible by the highest power of two, 2^bit (`IsCutPoint`). Then c is the split point of the union of xs and
-- ys. For each pair of xs or ys, the number that represents the pair (`pair_value`) has the same bits as c at all bit
-- positions above `bit` (`IsAlike`).
pub placed : {xs ys : List (ℕ × ℕ)} {low high low' high' bit l h c : ℕ} → IsCutPoint bit l h c → HasEnds xs low high
    → HasEnds ys low' high' → l ≡ min low low' → h ≡ max high high'
    → IsAlike bit xs c × IsAlike bit ys c × ((list : List (ℕ × ℕ)) → Unites list xs ys → IsCut list c)
placed {bit = bit} {l} {h} {c} place first second l_is h_is = (
  first.alike bit l h c place (omega arith) (omega arith),
  second.alike bit l h c place (omega arith) (omega arith),
  λ list unites. IsCut-ends (HasEnds-union first second unites) (rw (l_is, h_is) at place),
)

-- The merge of two lists contains exactly the pairs of both lists.
pub unites_merged : (list xs ys : List (ℕ × ℕ)) → list ≡ merged xs ys → Unites list ys xs
unites_merged list xs ys e = rw e (λ z. or_swap (merged_has z xs ys))

-- The fingerprint of a list (a hash of 64 bits) is the sum of the hashes of its pairs, modulo 2^64. Suppose that two
-- lists are in strictly ascending order, and that they have no pair in common. Then the fingerprint of the merge of the
-- two lists is the sum of their fingerprints, modulo 2^64.
pub fingerprint_merged : (xs ys : List (ℕ × ℕ)) → IsStrictlySortedBy pair_cmp xs → IsStrictlySortedBy pair_cmp ys
    → ShareNone xs ys → (fingerprint_of xs + fingerprint_of ys) % 2 ^ 64 ≡ fingerprint_of (merged xs ys)
fingerprint_merged xs ys first second apart =
    let all = merged xs ys in
    let inside = is_member (eq_by_cmp pair_cmp) xs in
    let outside = is_lacking xs in
    let sorted = λ (p : ℕ × ℕ → Bool). IsStrictlySortedBy-filter pair_cmp p all (merged_ascending xs ys first second) in
    let old : filter inside all ≡ xs = ascending_unique _ xs (sorted inside) first (λ z.
    grind (arith, passing_has inside all z, merged_has z xs ys, has_pair xs z)) in
    let new : filter outside all ≡ ys = ascending_unique _ ys (sorted outside) second (λ z.
    grind (arith, passing_has outside all z, merged_has z xs ys, has_pair xs z, apart z, cases_Bool (inside z))) in
    sym (add-mod (sum_by hash_of xs) (sum_by hash_of ys) (2 ^ 64))
    ∙ ap (λ n. n % 2 ^ 64) (rw (old, new) at (sum_by-filter_both inside outside (λ z. refl) hash_of all))

-- Suppose that a list contains exactly the pairs of two other lists, and that all three lists are in strictly ascending
-- order. Then this list is the merge of the two other lists.
pub unites_is_merged : (list few base : List (ℕ × ℕ)) → IsStrictlySortedBy pair_cmp list
    → IsStrictlySortedBy pair_cmp few → IsStrictlySortedBy pair_cmp base → Unites list few base → list ≡ merged base few
unites_is_merged list few base ascending ascending_few ascending_base unites =
    ascending_unique list (merged base few) ascending (merged_ascending base few ascending_base ascending_few)
    (λ z. grind (arith, merged_has z base few, unites z))

pub merged_fit : (xs ys : List (ℕ × ℕ)) → Fit xs → Fit ys → Fit (merged xs ys)
merged_fit xs ys fit fit' z d = elim ((merged_has z xs ys).0 d) [ inl a ↦ fit z a | inr b ↦ fit' z b ]

-- Suppose that two lists are in strictly ascending order, and that the second component of each of their pairs is less
-- than 2^32 (`Fit`). Suppose also that the number c divides each of the two lists into two parts. To compare a pair
-- (x, y) with c, the pair is represented by the number x * 2^32 + y (`pair_value`). The lower part contains the pairs
-- that are less than c, and the upper part contains the other pairs. Then the merge of the two lists is the merge of
-- the two lower parts, followed by the merge of the two upper parts.
pub merged_halves : {list few below above below' above' : List (ℕ × ℕ)} {c : ℕ} → IsParted list c below above
    → IsParted few c below' above'
    → IsStrictlySortedBy pair_cmp list → IsStrictlySortedBy pair_cmp few → Fit list → Fit few
    → merged below below' ++ merged above above' ≡ merged list few
merged_halves {list} {few} {below} {above} {below'} {above'} {c} first second ascending ascending' fit fit' =
    let one = parts_both first ascending fit in
    let two = parts_both second ascending' fit' in
    let low = unites_merged _ below below' refl in
    let high = unites_merged _ above above' refl in
    let parted = united_parted second first _ _ low high in
    unites_is_merged (merged below below' ++ merged above above') few list
    (halves_ascending _ _ c (merged_ascending _ _ one.0.0 two.0.0) (merged_ascending _ _ one.1.0 two.1.0)
    (merged_fit below below' one.0.1 two.0.1) (merged_fit above above' one.1.1 two.1.1)
    parted.under parted.over)
    ascending' ascending (united second first _ _ low high)

pub if_both : {X E : Type 0} (r : Result X E) (P Q : X → Type 0) → IfOk r P → IfOk r Q → IfOk r (λ x. P x × Q x)
if_both r P Q p q = grind arith

pub none_stored : (unions : List Union) (n : ℕ) → unions ≡ replicate n NO_UNION → All IsNone (map union_entry unions)
none_stored unions n e =
    rw e (All-map IsNone union_entry _ (All-replicate (λ u. IsNone (union_entry u)) n NO_UNION refl))

-- The union cache is a hash table of unions that were computed before. Suppose that one slot of the cache is
-- overwritten with a new entry. Then each entry that the cache contains after this is the new entry, or was in the
-- cache before.
pub written : (unions : List Union) (p : ℕ) (u : Union) (z : (ℕ × ℕ) × ℕ)
    → Contains (map union_entry (set unions p u)) z → Contains (map union_entry unions) z ⊎ (z ≡ union_entry u)
written unions p u z has = search (rules, map-set)

-- If the list with the ID 0 is united with itself, the union is the same list. In the union cache, which is a hash
-- table of unions that were computed before, this union fills each empty slot.
pub IsUnion-none : (lists : List (List (ℕ × ℕ))) → 0 < length lists → IsUnion lists (0, 0) 0
IsUnion-none lists some = search rules

-- The union of two lists does not depend on the order of the two lists.
pub IsUnion-swap : {lists : List (List (ℕ × ℕ))} {j k i : ℕ} → IsUnion lists (j, k) i → IsUnion lists (k, j) i
IsUnion-swap is = search (rules, is.within, is.second, is.first, or_swap, is.exactly)

pub IsUnion-in_order : (lists : List (List (ℕ × ℕ))) (j k i : ℕ) →
    IsUnion lists (j, k) i ↔ IsUnion lists (min j k, max j k) i
IsUnion-in_order lists j k i = elim (cases_lt j k) [
  | inl less ↦ search rules
  | inr more ↦
      let order : (min j k ≡ k) × (max j k ≡ j) = (omega arith, omega arith) in
      rw (order.0, order.1) (IsUnion-swap, IsUnion-swap)
]

-- The union cache is a hash table of unions that were computed before. An entry of the cache contains the IDs of two
-- lists and the ID of their union. Suppose that each entry of the cache is correct (`IsUnion`). If a correct entry is
-- stored in the cache, each entry is still correct, even if old entries are removed.
pub AreUnions-store : {lists : List (List (ℕ × ℕ))} (unions stored : List ((ℕ × ℕ) × ℕ)) (key : ℕ × ℕ) (i : ℕ)
    → AreUnions lists unions → IsUnion lists key i
    → ((z : (ℕ × ℕ) × ℕ) → Contains stored z → Contains unions z ⊎ IsNone z ⊎ (z ≡ (key, i))) → AreUnions lists stored
AreUnions-store unions stored key i are is from z d = search (rules, from z d, are z, is.within, IsUnion-none)
