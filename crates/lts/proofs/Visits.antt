-- Lemmas about the set of visited transitions. A visit is a read of a transition that the meter counts. If a transition
-- was visited before and is read again, the meter does not count the second read as another visit. The lemmas count the
-- visits that are needed to read all transitions of a state or of the system. The place of a transition is its index in
-- the list of all transitions. The last lemmas are about a set of places that is stored as one bit for each place.
use Rattle.std.proofs.Common.{rules, ◌≡◌, ◌∙◌, ℕ, suc, ◌+◌, ◌-◌, ◌<◌, ◌≤◌, Bool, true, false, not, cond, ◌&&◌, eqb}
use Rattle.std.proofs.Common.{List, [], ◌∷◌, ◌++◌, length, map, Contains, sym, ap, refl, arith, ◌*◌, ◌/◌, ◌%◌, ◌^◌}
use Rattle.std.proofs.Common.{get_or, inl, inr, slice_index_or, slice_set, w64, Decides, All, filter, sum_by, ne_eqb}
use Rattle.std.proofs.Common.{length-append, get_or-set_same, get_or-set_other, bit_or}
use Rattle.std.specs.{List.IsDistinct, List.range_with_len, Int.bit_at}
use Rattle.std.proofs.Math.Bool.{and_comm}
use Rattle.std.proofs.lemmas.{Bool.cases_Bool, Bool.false_from_ne_true, Bool.cases_eq, Cmp.nat_eq_equiv}
use Rattle.std.proofs.lemmas.{List.Filters.length-filter_both, Map.Keys.IsDistinct-push, Map.Keys.IsDistinct-from_apart}
use Rattle.std.proofs.lemmas.{Map.Made.is_member-Decides, Map.Made.length-IsIntersection, List.Folds.list_any-append}
use Rattle.std.proofs.lemmas.List.{length-take, length-drop, length-map, places, same_lists, get_or_past}
use Rattle.std.proofs.lemmas.Bool.Decides.{Decides-eqb, same_from_decides, Decides-like, nat_tests}
use Rattle.std.proofs.lemmas.List.Elements.{All-contains, All-nil, All-push, Contains-append_left}
use Rattle.std.proofs.lemmas.List.Elements.{Contains-append_right, Contains-append_cases, Contains-push}
use Rattle.std.proofs.lemmas.List.Elements.{Contains-push_cases, Contains-get_or}
use Rattle.std.proofs.lemmas.List.FromFn.{length-range_with_len, get_or-range_with_len, fill_by_all}
use Rattle.std.proofs.lemmas.List.Sums.{length-filter, sum_by-cons, sum_by-append}
use Rattle.std.proofs.lemmas.Nat.Bits.{bit_at_set_same, bit_at_set_other, bit_at-zero}
use Rattle.lts.specs.{Lts.Triple, Lts.source_of, Lts.row_of, Lts.place_at, Lts.IsRow, Meter.Counts}
use Rattle.lts.specs.Visited.{AreVisited, HasVisited, is_visited, price, price_between, remaining_of, HaveBits}
use Rattle.lts.proofs.Filters.{filter-whole, filter-filter, filter-map, filter-slice}

pub visited_Decides : (visited : List ℕ) (k : ℕ) → Decides (is_visited visited k) (Contains visited k)
visited_Decides = is_member-Decides Decides-eqb

-- If a range of numbers ends where another range begins, the concatenation of these ranges is one range.
range-append : (a m n b l : ℕ) → a + m ≡ b → m + n ≡ l → range_with_len a l ≡ range_with_len a m ++ range_with_len b n
range-append a m n b l e f = same_lists _ _ (search (rules, length-append, length-range_with_len))
    (λ k d h. grind (arith, places, get_or-range_with_len, length-range_with_len))

all_below : (n : ℕ) → All (λ k. k < n) (range_with_len 0 n)
all_below n k d h = grind (arith, length-range_with_len, get_or-range_with_len)

-- Reading an empty range of transitions needs no visit (a read of a transition that the meter counts).
pub price_none : (visited : List ℕ) (k : ℕ) → price_between visited k k ≡ 0
price_none visited k = let none : k - k ≡ 0 = omega arith in ap (λ n. sum_by (price visited) (range_with_len k n)) none

pub price_first : (visited : List ℕ) (from to : ℕ) → from < to →
    price_between visited from to ≡ price visited from + price_between visited (from + 1) to
price_first visited from to h = let size : to - from ≡ suc (to - (from + 1)) = omega arith in
    ap (λ n. sum_by (price visited) (range_with_len from n)) size
    ∙ sum_by-cons (price visited) from (range_with_len (from + 1) (to - (from + 1)))

pub price_split : (visited : List ℕ) (from middle to : ℕ) → from ≤ middle → middle ≤ to →
    price_between visited from to ≡ price_between visited from middle + price_between visited middle to
price_split visited from middle to low high =
    ap (sum_by (price visited)) (range-append from (middle - from) (to - middle) middle (to - from) (omega arith)
    (omega arith)) ∙ sum_by-append (price visited) (range_with_len from (middle - from)) _

pub price_one_more : (visited : List ℕ) (from to : ℕ) → from ≤ to →
    price_between visited from (to + 1) ≡ price_between visited from to + price visited to
price_one_more visited from to h = let split = price_split visited from to (to + 1) h (omega arith) in
    omega (arith, split, price_first visited to (to + 1) (omega arith), price_none visited (to + 1))

price-sum : (p : ℕ → Bool) (ks : List ℕ) → length (filter (λ k. not (p k)) ks) ≡ sum_by (λ k. cond (p k) 0 1) ks
price-sum p [] = refl
price-sum p (k ∷ ks) = let rest = price-sum p ks in let more = sum_by-cons (λ k. cond (p k) 0 1) k ks in grind arith

-- A visit is a read of a transition that the meter counts. The number of visits that are needed to read all transitions
-- of the state s equals the number of transitions of s that were not visited before.
pub row_left : (visited : List ℕ) (places : List Triple) (s start end : ℕ) → IsRow places s start end →
    length (row_of s (remaining_of visited places)) ≡ price_between visited start end
row_left visited es s start end is = let fresh : ℕ → Bool = λ k. not (is_visited visited k) in
    let here : ℕ → Bool = λ k. eqb (source_of (place_at es k)) s in
    let all : List ℕ = range_with_len 0 (length es) in
    let row : filter here all ≡ range_with_len start (end - start) =
    filter-slice here all start end (omega (arith, is.count))
    (omega (arith, is.within, length-range_with_len 0 (length es)))
    (λ k d l. grind (arith, nat_tests, is.exactly k, length-range_with_len, get_or-range_with_len))
    ∙ same_lists _ _ (simp (length-take, length-drop, length-range_with_len) (omega (arith, is.within)))
    (λ k d h. grind (arith, places, get_or-range_with_len, length-range_with_len, is.within)) in
    ap length (filter-map (λ e. eqb (source_of e) s) (place_at es) (filter fresh all))
    ∙ length-map (filter here (filter fresh all)) (place_at es)
    ∙ ap length (filter-filter here fresh (λ k. fresh k && here k) (λ k. refl) all
    ∙ sym (filter-filter fresh here (λ k. fresh k && here k) (λ k. and_comm (fresh k) (here k)) all)
    ∙ ap (filter fresh) row)
    ∙ price-sum (is_visited visited) (range_with_len start (end - start))

pub left_none : (places : List Triple) → remaining_of [] places ≡ places
left_none places =
    ap (map (place_at places)) (filter-whole (λ k. true) (range_with_len 0 (length places)) (λ i d l. refl))
    ∙ sym (fill_by_all (place_at places) places (length places) (0, 0, 0) refl (λ k h. refl))

pub visited_add : (places : List Triple) (visited : List ℕ) (k : ℕ) → AreVisited places visited → k < length places →
    ¬ Contains visited k → AreVisited places (visited ++ k ∷ [])
visited_add places visited k are low new = record {
  below = All-push (λ j. j < length places) visited k are.below low;
  once = IsDistinct-push nat_eq_equiv visited k are.once
      (false_from_ne_true _ (λ e. new ((visited_Decides visited k).0 e)));
}

pub all_visited : (places : List Triple) → AreVisited places (range_with_len 0 (length places))
all_visited places = let all : List ℕ = range_with_len 0 (length places) in record {
  below = all_below (length places);
  once = IsDistinct-from_apart eqb all
      (λ i j d h low. ne_eqb _ _ (λ e. grind (arith, length-range_with_len, get_or-range_with_len)));
}

pub in_all : (n k : ℕ) → k < n → is_visited (range_with_len 0 n) k ≡ true
in_all n k h = (visited_Decides (range_with_len 0 n) k).1
    (k, omega (arith, length-range_with_len 0 n), get_or-range_with_len 0 n k k h ∙ omega arith)

pub left_counts : (places : List Triple) (visited : List ℕ) → AreVisited places visited →
    length (remaining_of visited places) + length visited ≡ length places
left_counts places visited are = let all : List ℕ = range_with_len 0 (length places) in
    let fresh : ℕ → Bool = λ k. not (is_visited visited k) in
    let inside = λ (k : ℕ) (c : Contains visited k). All-contains (λ j. j < length places) visited k are.below c in
    let among = length-IsIntersection nat_eq_equiv all visited visited (all_visited places).once are.once
    (λ k. grind (
      arith,
      visited_Decides visited k,
      inside k,
      in_all (length places) k,
      cases_Bool (is_visited visited k),
      and_comm (is_visited all k) (is_visited visited k),
    )) in
    let both = length-filter_both (is_visited visited) fresh (λ k. refl) all in
    let some = length-map (filter fresh all) (place_at places) in
    omega (arith, some, both, length-range_with_len 0 (length places), among, length-filter (is_visited visited) all)

pub visited_few : (places : List Triple) (visited : List ℕ) → AreVisited places visited → length visited ≤ length places
visited_few places visited are = omega (arith, left_counts places visited are)

-- A visit is a read of a transition that the meter counts. Suppose that the list `visited` of the places (indices) of
-- the visited transitions is empty, and that the counts of the meter have not changed. Then the number of counted
-- visits is the length of `visited`, and no round was counted (`HasVisited`).
pub none_visited : (places : List Triple) (at : Counts) (visited : List ℕ) → visited ≡ [] →
    HasVisited places at at visited
unfolding IsDistinct
none_visited places at visited none = rw none (search (rules, All-nil))

-- The number of transitions that were not visited yet, plus the number of visits that the meter has counted since an
-- earlier time (`HasVisited`), is the number of all transitions.
pub visits_left : {places : List Triple} {start now : Counts} {visited : List ℕ} → HasVisited places start now visited →
    length (remaining_of visited places) + now.visits ≡ start.visits + length places
visits_left {places} {visited = visited} has = omega (arith, left_counts places visited has.are, has.visits)

-- Returns the bit of the place k (the index of a transition) in the bit set `words`.
abbrev pub bit : List ℕ → ℕ → ℕ
bit words k = bit_at (slice_index_or words (k / 64) 0) (k % 64)

-- The bit set `words` assigns one bit to each place (index of a transition), and stores 64 bits in each word. If the
-- bit of the place k is 1, then `words` contains the word with this bit.
pub bit_within : (words : List ℕ) (k : ℕ) → bit words k ≡ 1 → k / 64 < length words
bit_within words k one = grind (arith, one, bit_at-zero, get_or_past)

-- These lemmas are about a list `places` of visited places (indices of transitions), and a bit set in which exactly the
-- bits of these places are 1. The lemmas assume that the place k is appended to `places`, and that the bit of k is set
-- to 1.
module _ (places words wide : List ℕ) (k word : ℕ) (have : HaveBits places words)
    (same : (j : ℕ) → slice_index_or wide j 0 ≡ slice_index_or words j 0) (room : k / 64 < length wide)
    (read : word ≡ slice_index_or wide (k / 64) 0) where
  abbrev new : List ℕ
  new = slice_set wide (k / 64) (bit_or word (1 * 2 ^ (k % 64) % 2 ^ 64))

  here : bit new k ≡ 1
  here = ap (λ w. bit_at w (k % 64)) (get_or-set_same wide (k / 64) _ 0 room)
      ∙ bit_at_set_same w64 word (k % 64) (omega arith)

  there : (j : ℕ) → (j ≡ k → ⊥) → bit new j ≡ bit words j
  there j other =
      let set = bit_at_set_other w64 word (k % 64) (omega arith) (j % 64) in
      let w = bit_or word (1 * 2 ^ (k % 64) % 2 ^ 64) in
      let own = get_or-set_same wide (k / 64) w 0 room in let far = get_or-set_other wide (k / 64) (j / 64) w 0 in
      grind (arith, other, same (j / 64), read, own, set, far)

  pub bit_more : HaveBits (places ++ k ∷ []) new
  bit_more j = elim (cases_eq j k) [
    | inl e ↦ rw e (λ _. Contains-push places k, λ _. here)
    | inr other ↦ rw (there j other)
        (grind (arith, other, have j, Contains-push_cases places k j, Contains-append_left places (k ∷ []) j))
  ]

-- If a word of the bit set is set to zero, no bit becomes 1.
pub sets_none : (words : List ℕ) (word k : ℕ) → word < length words → bit (slice_set words word 0) k ≡ 1 →
    bit words k ≡ 1
sets_none words word k room one = elim (cases_eq (k / 64) word) [
  | inl same ↦ absurd (grind (arith, one, same, room, bit_at-zero, get_or-set_same))
  | inr apart ↦ ap (λ w. bit_at w (k % 64)) (sym (get_or-set_other words word (k / 64) 0 0 apart)) ∙ one
]

module _ (below : ℕ) (places words : List ℕ) (k : ℕ) (have : HaveBits places words) (high : below ≤ k) where
  abbrev all : List ℕ
  all = range_with_len 0 below ++ places

  -- A place is the index of a transition. The set of visited places contains all places less than `below`, and all
  -- places whose bit is 1. Let k be a place that is not less than `below`. Then k was visited if and only if the bit of
  -- k is 1.
  pub bit_tells : eqb (bit words k) 1 ≡ is_visited all k
  bit_tells = same_from_decides _ _ (Decides-eqb (bit words k) 1) (Decides-like _
      (λ c. let low = All-contains (λ j. j < below) (range_with_len 0 below) k (all_below below) in
      grind (arith, Contains-append_cases (range_with_len 0 below) places k c, high, have k, low))
      (λ one. Contains-append_right (range_with_len 0 below) places k ((have k).0 one)) (visited_Decides all k))

  -- The bit set assigns one bit to each place (index of a transition), and stores 64 bits in each word. Let k be a
  -- place that is not less than `below`. If the bit set has too few words to contain the bit of k, then k was not
  -- visited.
  pub none_past : length words ≤ k / 64 → is_visited all k ≡ false
  none_past past = sym bit_tells ∙ ne_eqb _ 1 (λ (one : bit words k ≡ 1). omega (arith, past, bit_within words k one))

pub first_visited : (below : ℕ) (places : List ℕ) (k : ℕ) → k < below
    → is_visited (range_with_len 0 below ++ places) k ≡ true
first_visited below places k h = search (rules, list_any-append, in_all)

pub bits_same : (places words wide : List ℕ) → HaveBits places words →
    ((k : ℕ) → slice_index_or wide k 0 ≡ slice_index_or words k 0) → HaveBits places wide
bits_same places words wide have same k = rw (same (k / 64)) (have k)

pub place_within : (places words : List ℕ) → HaveBits places words → (i d : ℕ) → i < length places →
    get_or places i d / 64 < length words
place_within places words have i d h =
    bit_within words (get_or places i d) ((have _).1 (Contains-get_or places i d h))
