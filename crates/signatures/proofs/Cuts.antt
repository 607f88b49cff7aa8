-- The split point of a list is the number at which the list is divided into two halves (`IsCut`). To compare a pair (x,
-- y) with the split point, the pair is represented by the number x * 2^32 + y (`pair_value`). If the second component
-- of each pair is less than 2^32 (`Fit`), the order of the pairs is the order of these numbers. The first half of a
-- list contains the pairs that are less than the split point, and the second half contains all other pairs. If the list
-- is in ascending order, so are both halves. A list has at most one split point. This number depends only on the first
-- and the last pair of the list. Among all numbers that are greater than the first pair and at most the last pair, it
-- is the number that is divisible by the highest power of two (`IsCutPoint`). The last lemmas show under which
-- conditions two interned lists are the halves of a list, and that no two other interned lists are the halves of this
-- list.
use Rattle.std.proofs.lemmas.{Grind.elements, Grind.common_steps, List.Elements.Contains-get_or, List.get_or_default}
use Rattle.std.proofs.Common.{rules, ◌≡◌, ◌↔◌, ◌⊎◌, ℕ, ◌+◌, ◌^◌, ◌<◌, ◌≤◌, List, [], ◌++◌, length, get_or, take, drop}
use Rattle.std.proofs.Common.{true, false, ltb, Contains, Less, inl, inr, arith, take-append-drop, length-drop}
use Rattle.std.proofs.Common.{length-append, get_or-take, get_or-drop, ◌∙◌, ◌-◌, ◌*◌, ◌/◌, ◌%◌, ap, sym, shr-shr}
use Rattle.std.proofs.Common.{div-add-mod', ◌≢◌, suc, bit_xor, add-one, div-mul-le_self, pow_pos, min, max, ⊎_elim}
use Rattle.std.{specs.Int.Count.count_leading_zeros, proofs.lemmas.Bool.cases_lt, proofs.lemmas.Bool.cases_order}
use Rattle.std.proofs.lemmas.{Nat.shl-shr, Nat.le-div, Nat.xor_shr, Nat.xor_lt, Nat.leading_top, Bool.cases_eq}
use Rattle.std.specs.List.Sorted.{IsStrictlySortedBy, IsNonDecreasingBy, IsPartitionPoint}
use Rattle.std.proofs.{Math.Pow.shr_mono, lemmas.Map.Keys.sorted_from_all_adjacent, lemmas.Map.Keys.Less-from_sorted}
use Rattle.std.proofs.lemmas.List.Elements.{Contains-append_cases, Contains-append_left, Contains-append_right}
use Rattle.std.proofs.lemmas.Nat.Bits.{same_from_bits, bit_at_xor, bit_at-zero, bit_at-lt}
use Rattle.signatures.specs.Cuts.{pair_value, Fit, IsUnder, IsOver, IsCut, IsParted, IsCutPoint, IsAlike}
use Rattle.signatures.specs.{Unions.Unites, Lists.pair_cmp, Lists.list_at, Nodes.AreStored, Nodes.AreHalvesIn}
use Rattle.signatures.specs.{Hashed.AreDifferent, declared.nodes.Halves.Halves, declared.nodes.TheConstants.MOST_WHOLE}
use Rattle.signatures.proofs.Ascending.{pair_total, ascending_unique}

-- Each pair (x, y) is represented by the number x * 2^32 + y (`pair_value`). If the second components of two pairs are
-- less than 2^32, then one pair is less than the other if and only if its number is less.
pub key_less : (x y : ℕ × ℕ) → x.1 < 2 ^ 32 → y.1 < 2 ^ 32 → (pair_cmp x y ≡ Less) ↔ (pair_value x < pair_value y)
key_less x y small fits = search rules

pub halves_has : (below above : List (ℕ × ℕ)) (z : ℕ × ℕ) →
    Contains (below ++ above) z ↔ (Contains below z ⊎ Contains above z)
halves_has below above z =
    let first = Contains-append_left below above z in
    grind (arith, first, Contains-append_cases below above z, Contains-append_right below above z)

-- Each pair (x, y) is represented by the number x * 2^32 + y (`pair_value`). Suppose that two lists are in strictly
-- ascending order, and that the second component of each of their pairs is less than 2^32 (`Fit`). Suppose also that
-- all pairs of the first list are less than the number c, and that all pairs of the second list are at least c. Then
-- the first list followed by the second list is in strictly ascending order.
pub halves_ascending : (below above : List (ℕ × ℕ)) (c : ℕ) → IsStrictlySortedBy pair_cmp below
    → IsStrictlySortedBy pair_cmp above → Fit below → Fit above
    → IsUnder below c → IsOver above c → IsStrictlySortedBy pair_cmp (below ++ above)
halves_ascending below above c first second fit fit' under over =
    sorted_from_all_adjacent pair_total (below ++ above) (0, 0) (λ k low.
    let i = k - length below in
    let last = get_or below k (0, 0) in
    let next = get_or above 0 (0, 0) in
    let has_last = Contains-get_or below k (0, 0) in
    let has_next = Contains-get_or above 0 (0, 0) in
    let less = Less-from_sorted pair_cmp below k (k + 1) (0, 0) first in
    let more = Less-from_sorted pair_cmp above i (i + 1) (0, 0) second in
    let between = key_less last next in
    grind (arith, elements, has_last, has_next, less, more, between, fit last, fit' next, under last, over next))

-- Suppose that a list is in strictly ascending order, and that the second component of each of its pairs is less than
-- 2^32 (`Fit`). Then the numbers that represent its pairs (`pair_value`) are in ascending order.
pub ascending_keys : (list : List (ℕ × ℕ)) → IsStrictlySortedBy pair_cmp list → Fit list
    → IsNonDecreasingBy pair_value list
ascending_keys list ascending fit i j d low high =
    let key = key_less (get_or list i d) (get_or list j d) (fit _ (Contains-get_or list i d (omega arith)))
    (fit _ (Contains-get_or list j d high)) in
    grind (arith, cases_eq i j, Less-from_sorted pair_cmp list i j d ascending, key, low, high)

-- Each pair (x, y) is represented by the number x * 2^32 + y (`pair_value`). Suppose that the first i pairs of a list
-- are less than the number c, and that all other pairs of the list are at least c. Then the number c divides the list
-- into its first i pairs and its remaining pairs (`IsParted`).
pub parted_is : (list : List (ℕ × ℕ)) (c i : ℕ) → i ≤ length list
    → IsPartitionPoint (λ z. ltb (pair_value z) c ≡ true) (λ z. ltb (pair_value z) c ≡ false) list i
    → IsParted list c (take i list) (drop i list)
parted_is list c i within point = search (rules, take-append-drop, get_or-take, length-drop, get_or-drop)

-- If the list xs followed by the list ys is in strictly ascending order, then both xs and ys are in strictly ascending
-- order.
ascending_both : (xs ys : List (ℕ × ℕ)) → IsStrictlySortedBy pair_cmp (xs ++ ys)
    → IsStrictlySortedBy pair_cmp xs × IsStrictlySortedBy pair_cmp ys
ascending_both xs ys ascending =
    let less = λ (k : ℕ). Less-from_sorted pair_cmp (xs ++ ys) k (k + 1) (0, 0) ascending in (
      sorted_from_all_adjacent pair_total xs (0, 0) (λ k low. grind (arith, elements, less k)),
      sorted_from_all_adjacent pair_total ys (0, 0) (λ k low. grind (arith, elements, less (length xs + k))),
    )

-- Suppose that a number divides a list of pairs into two parts: the pairs whose numbers (`pair_value`) are less than
-- this number, and the other pairs. If the list is in strictly ascending order, both parts are in strictly ascending
-- order. If the second component of each pair of the list is less than 2^32 (`Fit`), this is also true of each pair of
-- both parts.
module _ {list below above : List (ℕ × ℕ)} {c : ℕ} (parted : IsParted list c below above) where
  pub parts_has : (z : ℕ × ℕ) → Contains list z ↔ (Contains below z ⊎ Contains above z)
  parts_has z = rw parted.joined (halves_has below above z)

  pub parts_both : IsStrictlySortedBy pair_cmp list → Fit list
      → (IsStrictlySortedBy pair_cmp below × Fit below) × (IsStrictlySortedBy pair_cmp above × Fit above)
  parts_both ascending fit =
      let both = ascending_both below above (rw parted.joined at ascending) in
      ((both.0, λ z d. fit z ((parts_has z).1 (inl d))), (both.1, λ z d. fit z ((parts_has z).1 (inr d))))

  pub below_has : (z : ℕ × ℕ) → Contains below z ↔ (Contains list z × (pair_value z < c))
  below_has z = grind (arith, parts_has z, parted.under z, parted.over z)

  pub above_has : (z : ℕ × ℕ) → Contains above z ↔ (Contains list z × (c ≤ pair_value z))
  above_has z = grind (arith, parts_has z, parted.under z, parted.over z)

  -- Suppose that a list is divided into two halves at its split point (`IsCut`). Then each of the two halves has fewer
  -- pairs than the list.
  pub parts_shorter : IsCut list c → (length below < length list) × (length above < length list)
  parts_shorter cut =
      grind (arith, below_has cut.below.0, above_has cut.above.0, cut.below, cut.above, parted.joined, length-append)

-- Suppose that two numbers have the same bits at all bit positions from m on, and that n is at least m. Then the two
-- numbers have the same bits at all bit positions from n on.
lift : (a b m n : ℕ) → m ≤ n → a / 2 ^ m ≡ b / 2 ^ m → a / 2 ^ n ≡ b / 2 ^ n
lift a b m n h e =
    let s : n ≡ m + (n - m) = omega arith in
    rw (s, ← shr-shr a m (n - m), ← shr-shr b m (n - m), e)

-- Suppose that the number c is a multiple of 2^bit, that the number z is less than c, and that the number y is at least
-- c. Then the quotient z / 2^bit, which is rounded down, is less than c / 2^bit. The quotient y / 2^bit, which is also
-- rounded down, is at least c / 2^bit.
between : (bit z c y : ℕ) → c % 2 ^ bit ≡ 0 → z < c → c ≤ y → (z / 2 ^ bit < c / 2 ^ bit) × (c / 2 ^ bit ≤ y / 2 ^ bit)
between bit z c y multiple below above = search rules

-- Suppose that the number c is a multiple of 2^bit, that the number z is less than c, and that the number y is at least
-- c. Suppose also that z and y have the same bits at all bit positions above `bit`. Then c is an odd multiple of 2^bit.
odd : (bit z c y q : ℕ) → c % 2 ^ bit ≡ 0 → z < c → c ≤ y → z / 2 ^ (bit + 1) ≡ q → y / 2 ^ (bit + 1) ≡ q →
    c ≡ (2 * q + 1) * 2 ^ bit
odd bit z c y q multiple below above first second =
    let parts = between bit z c y multiple below above in
    let lower : z / 2 ^ bit / 2 ≡ q = shr-shr z bit 1 ∙ first in
    let upper : y / 2 ^ bit / 2 ≡ q = shr-shr y bit 1 ∙ second in
    let m : c / 2 ^ bit ≡ 2 * q + 1 = omega arith in
    sym (omega (arith, div-add-mod' c (2 ^ bit), multiple)) ∙ ap (λ m. m * 2 ^ bit) m

module _ (list : List (ℕ × ℕ)) where
  -- Each pair (x, y) is represented by the number x * 2^32 + y (`pair_value`). Suppose that the numbers for all pairs
  -- of the list have the same bits at all bit positions above `bit`. Suppose also that d is a multiple of a power of
  -- two that is greater than 2^bit. Then the list cannot contain both a pair that is less than d and a pair that is at
  -- least d.
  none_later : (bit later c d : ℕ) → IsAlike bit list c → bit < later → d % 2 ^ later ≡ 0
      → (z y : ℕ × ℕ) → Contains list z → Contains list y → pair_value z < d → d ≤ pair_value y → ⊥
  none_later bit later c d is more multiple z y in_z in_y below above =
      let parts = between later (pair_value z) d (pair_value y) multiple below above in
      let same =
      lift (pair_value z) (pair_value y) (bit + 1) later (omega arith) (is.alike z in_z ∙ sym (is.alike y in_y)) in
      omega (arith, parts, same)

  at_odd : (c : ℕ) (is : IsCut list c) → c ≡ (2 * (c / 2 ^ (is.bit + 1)) + 1) * 2 ^ is.bit
  at_odd c is = search (rules, odd, is.alike.multiple, is.below, is.above, is.alike.alike)

  pub cut_unique : (c d : ℕ) → IsCut list c → IsCut list d → c ≡ d
  cut_unique c d first second = elim (cases_order first.bit second.bit) [
    | inl e ↦
        let z = first.below.1 in
        cc (at_odd c first, at_odd d second, first.alike.alike _ z, second.alike.alike _ z)
    | inr (inl low) ↦ search (rules, none_later, first.alike, second.alike.multiple, second.below, second.above)
    | inr (inr high) ↦ search (rules, none_later, second.alike, first.alike.multiple, first.below, first.above)
  ]

  -- The split point of a list is the number d at which the list is divided into two halves (`IsCut`). Suppose that d is
  -- greater than `low` and at most `high`. Among all numbers that are greater than `low` and at most `high`, let c be
  -- the number that is divisible by the highest power of two, 2^bit (`IsCutPoint`). Then, for each pair of the list,
  -- the number that represents the pair (`pair_value`) has the same bits as c at all bit positions above `bit`
  -- (`IsAlike`).
  pub alike_wider : (bit low high c d : ℕ) → IsCutPoint bit low high c → IsCut list d → low < d → d ≤ high →
      IsAlike bit list c
  alike_wider bit low high c d place own after within = record {
    multiple = place.multiple;
    alike = λ z in_z. elim (cases_lt bit own.bit) [
      | inl later ↦
          let parts = between own.bit low d high own.alike.multiple after within in
          let same = lift low high (bit + 1) own.bit (omega arith) (place.low_alike ∙ sym place.high_alike) in
          absurd (omega (arith, parts, same))
      | inr earlier ↦
          let down = shr_mono {a = low} {b = d} (bit + 1) (omega arith) in
          let up = shr_mono {a = d} {b = high} (bit + 1) within in
          lift (pair_value z) d (own.bit + 1) (bit + 1) (omega arith) (own.alike.alike z in_z)
          ∙ omega (arith, place.low_alike, place.high_alike)
    ];
  }

  -- Each pair (x, y) is represented by the number x * 2^32 + y (`pair_value`). Suppose that the number c is a multiple
  -- of 2^bit, and that the numbers for all pairs of the list have the same bits as c at all bit positions above `bit`
  -- (`IsAlike`). Suppose also that c is not the split point of the list, which is the number at which the list is
  -- divided into two halves. Then the numbers for all pairs of the list are less than c, or the numbers for all pairs
  -- of the list are at least c.
  pub all_under : (bit c d : ℕ) → IsAlike bit list c → IsCut list d → d < c → IsUnder list c
  all_under bit c d is own less z in_z =
      let same : c ≤ pair_value z → c ≡ d = λ h. cut_unique c d (search (rules, own.below)) own in
      grind (arith, less, same)

  pub all_over : (bit c d : ℕ) → IsAlike bit list c → IsCut list d → c < d → IsOver list c
  all_over bit c d is own more z in_z =
      let same : pair_value z < c → c ≡ d = λ h. cut_unique c d (search (rules, own.above)) own in
      grind (arith, more, same)

  -- Among all numbers that are greater than `low` and at most `high`, let c be the number that is divisible by the
  -- highest power of two, 2^bit (`IsCutPoint`). Suppose that, for each pair of a list, the number that represents the
  -- pair (`pair_value`) is at least `low` and at most `high`. Then, for each pair of the list, this number has the same
  -- bits as c at all bit positions above `bit` (`IsAlike`).
  pub alike_within : (bit low high c : ℕ) → IsCutPoint bit low high c →
      ((z : ℕ × ℕ) → Contains list z → (low ≤ pair_value z) × (pair_value z ≤ high)) → IsAlike bit list c
  alike_within bit low high c place range =
      record { multiple = place.multiple; alike = λ z in_z. search (rules, shr_mono, range z in_z, place) }

-- The function `cut` finds the highest bit in which the numbers `low` and `high` differ, and clears all lower bits of
-- `high`. Among all numbers that are greater than `low` and at most `high`, the result is the number that is divisible
-- by the highest power of two (`IsCutPoint`). A list of pairs is divided into two halves at this number, if `low`
-- represents the first pair of the list and `high` represents the last pair.

same_from_xor : (a b : ℕ) → bit_xor a b ≡ 0 → a ≡ b
same_from_xor a b none =
    same_from_bits a b (λ i. grind (arith, bit_at_xor a b i, none, bit_at-zero i, bit_at-lt a i, bit_at-lt b i))

IsCutPoint-highest : (low high bit : ℕ) → low < high → 2 ^ bit ≤ bit_xor low high → bit_xor low high < 2 ^ (bit + 1)
    → IsCutPoint bit low high (high / 2 ^ bit * 2 ^ bit)
IsCutPoint-highest low high bit before reaches below =
    let none : bit_xor low high / 2 ^ (bit + 1) < 1 = search rules in
    let same : low / 2 ^ (bit + 1) ≡ high / 2 ^ (bit + 1) = search (rules, same_from_xor, xor_shr) in
    let some : 1 ≤ bit_xor low high / 2 ^ bit = le-div 1 (bit_xor low high) (2 ^ bit) (pow_pos bit) (omega arith) in
    let differ : low / 2 ^ bit ≢ high / 2 ^ bit = grind (arith, common_steps, xor_shr) in
    let order : low / 2 ^ bit ≤ high / 2 ^ bit = shr_mono bit (omega arith) in
    let at : high / 2 ^ bit * 2 ^ bit / 2 ^ bit ≡ high / 2 ^ bit = shl-shr (high / 2 ^ bit) bit in
    let high_same : high / 2 ^ (bit + 1) ≡ high / 2 ^ bit * 2 ^ bit / 2 ^ (bit + 1) = search rules in
    search (rules, div-mul-le_self)

-- The code uses `leading_zeros` to compute the position of the highest bit in which `low` and `high` differ. The code
-- then uses two shifts to clear the lower bits of `high`.
module _ (low high : ℕ) (before : low < high) (fits : high < 2 ^ 64) where
  pub highest : (bit : ℕ) × (count_leading_zeros 64 (bit_xor low high) + suc bit ≡ 64) × (2 ^ bit ≤ bit_xor low high)
      × (bit_xor low high < 2 ^ suc bit)
  highest = leading_top 64 (bit_xor low high) (search (rules, same_from_xor)) (xor_lt 64 low high (omega arith) fits)

  pub leading_place : (bit : ℕ) × IsCutPoint bit low high
      (high / 2 ^ (63 - count_leading_zeros 64 (bit_xor low high)) * 2
      ^ (63 - count_leading_zeros 64 (bit_xor low high)) % 2 ^ 64)
  leading_place =
      let bit = highest.0 in
      let is : 63 - count_leading_zeros 64 (bit_xor low high) ≡ bit = let h = highest.1 in omega arith in
      let cleared : high / 2 ^ bit * 2 ^ bit % 2 ^ 64 ≡ high / 2 ^ bit * 2 ^ bit = search rules in
      (bit, rw (is, cleared) (IsCutPoint-highest low high bit before highest.2 (rw add-one highest.3)))

-- `HasEnds` is about a list of pairs and the numbers `low` and `high`. Each pair (x, y) is represented by the number
-- x * 2^32 + y (`pair_value`). `HasEnds` holds if both of the following conditions hold. The first condition is that
-- the list contains a pair that is at most `low` and a pair that is at least `high`. The second condition is about any
-- two numbers l and h such that l is at most `low` and h is at least `high`. Among all numbers that are greater than l
-- and at most h, let c be the number that is divisible by the highest power of two, 2^bit (`IsCutPoint`). Then each
-- pair of the list must have the same bits as c at all bit positions above `bit` (`IsAlike`).
pub record HasEnds (list : List (ℕ × ℕ)) (low high : ℕ) : Type 0 where
  pub before : (z : ℕ × ℕ) × Contains list z × (pair_value z ≤ low)
  pub after : (z : ℕ × ℕ) × Contains list z × (high ≤ pair_value z)
  pub alike : (bit l h c : ℕ) → IsCutPoint bit l h c → l ≤ low → high ≤ h → IsAlike bit list c

-- Each pair (x, y) is represented by the number x * 2^32 + y (`pair_value`). Suppose that a list is not empty and is in
-- strictly ascending order, and that the second component of each of its pairs is less than 2^32 (`Fit`). Let `low` be
-- the number for the first pair of the list, and let `high` be the number for its last pair. Then the number for each
-- pair of the list is at least `low` and at most `high`, and `HasEnds` holds for the list and the numbers `low` and
-- `high`. If the list has more than one pair, `low` is less than `high`.
module _ (list : List (ℕ × ℕ)) (ascending : IsStrictlySortedBy pair_cmp list) (fit : Fit list) (some : 0 < length list)
    {low high : ℕ} (low_is : low ≡ pair_value (get_or list 0 (0, 0)))
    (high_is : high ≡ pair_value (get_or list (length list - 1) (0, 0))) where
  has_first : Contains list (get_or list 0 (0, 0))
  has_first = Contains-get_or list 0 (0, 0) some

  has_last : Contains list (get_or list (length list - 1) (0, 0))
  has_last = Contains-get_or list (length list - 1) (0, 0) (omega arith)

  keys_between : (z : ℕ × ℕ) → Contains list z → (low ≤ pair_value z) × (pair_value z ≤ high)
  keys_between z (k, low', is) =
      let keys = ascending_keys list ascending fit in
      let at = get_or_default list k (0, 0) z in
      grind (arith, at, keys 0 k (0, 0), keys k (length list - 1) (0, 0), is, low_is, high_is, low')

  pub first_before_last : 1 < length list → low < high
  first_before_last many =
      let less = Less-from_sorted pair_cmp list 0 (length list - 1) (0, 0) ascending (omega arith) (omega arith) in
      let last = get_or list (length list - 1) (0, 0) in
      omega (arith, (key_less (get_or list 0 (0, 0)) last (fit _ has_first) (fit _ has_last)).0 less)

  pub ends_pairs : HasEnds list low high
  ends_pairs = record {
    before = (get_or list 0 (0, 0), has_first, omega (arith, low_is));
    after = (get_or list (length list - 1) (0, 0), has_last, omega (arith, high_is));
    alike = λ bit l h c place under over. alike_within list bit l h c place (λ z d.
        let between = keys_between z d in (omega arith, omega arith));
  }

-- Each pair (x, y) is represented by the number x * 2^32 + y (`pair_value`). The condition `HasEnds` relates a list of
-- pairs to two numbers. Suppose that `HasEnds` holds for a list and the numbers `low` and `high`. Among all numbers
-- that are greater than `low` and at most `high`, let c be the number that is divisible by the highest power of two
-- (`IsCutPoint`). Then c is the split point of the list, which is the number at which the list is divided into two
-- halves (`IsCut`).
pub IsCut-ends : {list : List (ℕ × ℕ)} {low high bit c : ℕ} → HasEnds list low high → IsCutPoint bit low high c →
    IsCut list c
IsCut-ends {list} {low} {high} {bit} {c} ends place =
    search (rules, ends.alike bit low high c place, ends.before, ends.after, place.after, place.within)

-- The condition `HasEnds` relates a list of pairs to two numbers. Suppose that `HasEnds` holds for the list xs with the
-- numbers `low` and `high`, and for the list ys with the numbers `low'` and `high'`. Let m be the lesser of `low` and
-- `low'`, and let n be the greater of `high` and `high'`. Then `HasEnds` holds for the union of xs and ys with the
-- numbers m and n.
pub HasEnds-union : {list xs ys : List (ℕ × ℕ)} {low high low' high' : ℕ} → HasEnds xs low high
    → HasEnds ys low' high' → Unites list xs ys → HasEnds list (min low low') (max high high')
HasEnds-union {list} {xs} {ys} {low} {high} {low'} {high'} first second unites = record {
  before =
      search (rules, cases_lt low low', first.before, second.before, unites first.before.0, unites second.before.0);
  after = search (rules, cases_lt high high', first.after, second.after, unites first.after.0, unites second.after.0);
  alike = λ bit l h c place under over.
      let one = first.alike bit l h c place (omega arith) (omega arith) in
      let two = second.alike bit l h c place (omega arith) (omega arith) in
      record { multiple = place.multiple; alike = λ z d. ⊎_elim (one.alike z) (two.alike z) ((unites z).0 d) };
}

-- Suppose that a list has more than 64 pairs (`MOST_WHOLE`), and that `h.cut` is the number at which the list has to be
-- divided into two halves (`IsCut`). Suppose also that this number divides the list into the two interned lists with
-- the IDs `h.below` and `h.above`. Then these two interned lists are the halves of the list (`AreHalvesIn`).
pub AreHalvesIn-parts : {lists : List (List (ℕ × ℕ))} {h : Halves} {list : List (ℕ × ℕ)} → h.below < length lists
    → h.above < length lists → IsParted list h.cut (list_at lists h.below) (list_at lists h.above) → IsCut list h.cut
    → MOST_WHOLE < length list → AreHalvesIn lists h
AreHalvesIn-parts {lists} {h} low high parted cut long = search (rules, length-append)

-- Suppose that g contains the IDs of the two halves of a list, and the number at which the list is divided into these
-- halves. Suppose that h contains the IDs of the halves of an equal list, and the number at which this list is divided.
-- Suppose also that no two stored lists are equal. Then g and h are equal.
module _ (lists : List (List (ℕ × ℕ))) (stored : AreStored lists) (different : AreDifferent lists) where
  pub halves_same : (g h : Halves) → AreHalvesIn lists g → AreHalvesIn lists h
      → list_at lists g.below ++ list_at lists g.above ≡ list_at lists h.below ++ list_at lists h.above → g ≡ h
  halves_same g h in_g in_h e =
      let list = list_at lists h.below ++ list_at lists h.above in
      let cut : g.cut ≡ h.cut = cut_unique list g.cut h.cut (rw e at in_g.halves.at_cut) in_h.halves.at_cut in
      let one : IsParted list g.cut (list_at lists g.below) (list_at lists g.above) = search rules in
      let two : IsParted list g.cut (list_at lists h.below) (list_at lists h.above) = search rules in
      let ascending = λ (k : ℕ) (low : k < length lists). stored.ascending k [] low in
      let below = different g.below h.below in_g.below in_h.below (ascending_unique _ _ (ascending _ in_g.below)
      (ascending _ in_h.below) (λ z. grind (arith, below_has one z, below_has two z))) in
      let above = different g.above h.above in_g.above in_h.above (ascending_unique _ _ (ascending _ in_g.above)
      (ascending _ in_h.above) (λ z. grind (arith, above_has one z, above_has two z))) in
      (λ i. record { below = below i; above = above i; cut = cut i })
