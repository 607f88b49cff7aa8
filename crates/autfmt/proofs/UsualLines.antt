-- The module `usual` is a fast path that reads transitions in their most common written forms. If the module reads a
-- transition at the beginning of some bytes, then the first line of these bytes denotes this transition.
use Rattle.std.proofs.Common.{◌≡◌, ◌≢◌, ℕ, ◌+◌, ◌^◌, ◌<◌, ◌≤◌, not, eqb, List, [], ◌∷◌, ◌++◌, length, get_or, take}
use Rattle.std.proofs.Common.{drop, map, codes, decimal, Some, refl, sym, ap, ◌∙◌, inl, inr, append_assoc, Bool, arith}
use Rattle.std.specs.{Char.is_ascii_digit, List.prefix_len, Str.Parse.digits_value}
use lib.Count.{count_trailing_zeros}
use lib.Lanes.{chunk, mask_l}
use Rattle.std.proofs.lemmas.{Bool.eqb-true, Simd.length-chunk, Simd.trailing_mask_l, Simd.run_in_chunk_stops}
use Rattle.std.proofs.lemmas.{Fmt.decimal-digits_value, List.Elements.All-from_recursion, List.Sums.prefix_len_passes}
use Rattle.std.proofs.lemmas.Str.Parse.{IsNumeralModel, numerals_by_value, tells_by_index, digits_value_short}
use Rattle.std.proofs.lemmas.List.{take-take, get_or-take, length-take-le, take-append-drop, drop_more}
use Rattle.theory.specs.System.{IsLabel}
use Rattle.autfmt.specs.{Grammar.Blanks, Grammar.quoted, Reading.past, Reading.plain_at}
use Rattle.autfmt.specs.Usual.{AreDigitsInFront, BeginsWithNumber, FollowsComma, FollowsEnd, HasMark, BeginsWithLabel}
use Rattle.autfmt.specs.Usual.{BeginsWithTransition}
use Rattle.autfmt.proofs.{Tokens.IsBlank, Tokens.digit-range, Lines.past-takes}
use Rattle.autfmt.proofs.Labels.{quoted-append, plain_at-takes}
use Rattle.autfmt.proofs.ReadBack.{none, a_space, spelled_line, spelled_line-short, spaced_line}

-- ---- Numbers

abbrev AreDigits : List ℕ → Type 0
AreDigits ds = (i : ℕ) → i < length ds → (48 ≤ get_or ds i 0) × (get_or ds i 0 ≤ 57)

numerals : IsNumeralModel AreDigits (digits_value 10)
numerals = numerals_by_value AreDigits tells_by_index

digits_in_front : (n : ℕ) (bytes : List ℕ) → n ≤ length bytes → n ≤ prefix_len is_ascii_digit bytes →
    AreDigits (take n bytes)
digits_in_front n bytes within digits i h = grind (arith, length-take-le, get_or-take, digit-range, prefix_len_passes)

-- Suppose that the first eight bytes of a list begin with one to seven digits, and that there is no leading zero. Then
-- the list begins with the decimal digits of a number.
pub number_in_front : (bytes : List ℕ) (n v : ℕ) → AreDigitsInFront bytes n v → (1 < n → get_or bytes 0 0 ≢ 48) →
    BeginsWithNumber bytes v (drop n bytes)
number_in_front bytes n v found leads =
    let size = length-take-le 8 bytes found.room in
    let ds = take n (take 8 bytes) in
    let long : length ds ≡ n = length-take-le n (take 8 bytes) (omega arith) in
    let digits = digits_in_front n (take 8 bytes) (omega arith) (omega arith) in
    let small : digits_value 10 ds < 10 ^ 7 = digits_value_short numerals ds 7 digits (omega arith) in
    let same : ds ≡ take n bytes = take-take n 8 bytes (omega arith) in
    let first : get_or ds 0 0 ≡ get_or bytes 0 0 = rw same (get_or-take n bytes 0 0 found.some) in
    let lone : get_or ds 0 0 ≡ 48 → length ds ≡ 1 = λ e. grind (arith, leads, first) in
    let written = decimal-digits_value numerals ds digits (omega (arith, found.some)) lone (omega arith) in
    (omega (arith, found.value), rw (found.value, written, same, take-append-drop) refl)

-- ---- Labels

-- Suppose that a bit mask contains one bit for each byte of a list, and that each bit is set if and only if a test
-- returns true for the byte of this bit. If the mask is not zero, then the test returns true for some byte of the list.
lane_passes : (p : ℕ → Bool) (xs : List ℕ) → 0 < mask_l (map p xs) → prefix_len (λ x. not (p x)) xs < length xs
lane_passes p [] some = absurd (omega arith)
lane_passes p (x ∷ xs) some = let h = lane_passes p xs in grind (arith, h)

-- Suppose that a bit mask contains one bit for each of sixteen bytes, and that each bit is set if and only if the byte
-- of this bit equals `byte`. If the mask is not zero, then the byte of the lowest set bit equals `byte`.
pub byte_in_lanes : (bytes : List ℕ) (i byte mask : ℕ) → i + 16 ≤ length bytes
    → mask ≡ mask_l (map (λ x. eqb x byte) (chunk i 16 bytes)) → 0 < mask
    → (i + count_trailing_zeros 64 mask < length bytes) × (get_or bytes (i + count_trailing_zeros 64 mask) 0 ≡ byte)
byte_in_lanes bytes i byte mask room is some =
    let v = chunk i 16 bytes in
    let long = length-chunk i 16 bytes room in
    let passes : ℕ → Bool = λ x. eqb x byte in
    let some_lane = rw is at some in
    let first = ap (count_trailing_zeros 64) is ∙ trailing_mask_l passes 64 v (omega arith) some_lane in
    let short : count_trailing_zeros 64 mask < 16 = omega (arith, first, lane_passes passes v some_lane) in
    (omega arith, eqb-true _ _ (run_in_chunk_stops passes bytes i 16 _ 0 room first short))

-- Suppose that the byte at the index i of a list is `byte`. Then the part of the list that begins at this index
-- consists of `byte` and of the elements after the index i.
pub byte_at : (bytes : List ℕ) (i byte : ℕ) (rest : List ℕ) → i < length bytes → get_or bytes i 0 ≡ byte →
    drop (i + 1) bytes ≡ rest → drop i bytes ≡ byte ∷ rest
byte_at bytes i byte rest room is behind = rw (drop_more bytes i 0 room, is, behind) refl

-- If a list begins with a quotation mark, a label and another quotation mark, then the list begins with the quoted form
-- of this label.
pub quoted_in_front : (bytes inside a rest : List ℕ) (n : ℕ) → 0 < length bytes → get_or bytes 0 0 ≡ 34
    → inside ≡ drop 1 bytes → HasMark inside n → a ≡ take n inside → rest ≡ drop (n + 1) inside
    → IsLabel a → BeginsWithLabel bytes a rest
quoted_in_front bytes inside a rest n room mark behind (within, closed) front back label =
    let begin = byte_at bytes 0 34 inside room mark (sym behind) in
    let close = byte_at inside n 34 rest within closed (sym back) in
    let cut : inside ≡ a ++ 34 ∷ rest = cc (take-append-drop n inside) in
    (quoted a, inr (label, refl), begin ∙ rw (cut, quoted-append) refl)

-- If the function `plain_at` reads a plain label (a label without quotation marks) from the list `bytes`, then this
-- list begins with the label.
pub plain_in_front : (bytes a rest : List ℕ) → plain_at bytes ≡ Some (a, rest) → BeginsWithLabel bytes a rest
plain_in_front bytes a rest e = let h = plain_at-takes bytes a rest e in (a, inl (h.0, refl), h.1)

-- ---- Whole lines

-- `BeginsWithToken token bytes rest` holds if the list `bytes` begins with the token `token` and at most one blank
-- after it, and `rest` are the bytes after this token and this blank.
abbrev BeginsWithToken : List ℕ → List ℕ → List ℕ → Type 0
BeginsWithToken token bytes rest =
    (blank : List ℕ) × Blanks blank × (length blank ≤ 1) × (bytes ≡ token ++ (blank ++ rest))

comma_in_front : (bytes rest : List ℕ) → FollowsComma bytes rest → BeginsWithToken (codes ",") bytes rest
comma_in_front bytes rest (inl e) = ([], none, omega arith, e)
comma_in_front bytes rest (inr e) = (codes " ", a_space, omega arith, e)

end_in_front : (bytes rest : List ℕ) → FollowsEnd bytes rest → BeginsWithToken (codes ")") bytes (10 ∷ rest)
end_in_front bytes rest (inl e) = ([], none, omega arith, e)
end_in_front bytes rest (inr e) = (13 ∷ [], All-from_recursion IsBlank (13 ∷ []) (inr (inr refl), tt), omega arith, e)

-- Suppose that the tokens of a transition are read from the beginning of a list of bytes, one after the other. Then the
-- list begins with the line of this transition.
pub transition_in_front : (bytes r0 r1 r2 r3 r4 r5 r6 : List ℕ) (s : ℕ) (a : List ℕ) (t : ℕ) → past 40 bytes ≡ Some r0
    → BeginsWithNumber r0 s r1 → FollowsComma r1 r2 → BeginsWithLabel r2 a r3
    → FollowsComma r3 r4 → BeginsWithNumber r4 t r5 → FollowsEnd r5 r6 → BeginsWithTransition bytes s a t r6
transition_in_front bytes r0 r1 r2 r3 r4 r5 r6 s a t e0 source e1 (spelling, label, e2) e3 target e5 =
    let (b, before, short, p) = comma_in_front r1 r2 e1 in
    let (d, between, short', q) = comma_in_front r3 r4 e3 in
    let (z, last, few, r) = end_in_front r5 r6 e5 in
    let nested : bytes ≡ codes "("
    ++ (decimal s ++ (codes "," ++ (b ++ (spelling ++ (codes "," ++
    (d ++ (decimal t ++ (codes ")" ++ (z ++ 10 ∷ r6))))))))) =
    cc (past-takes 40 bytes r0 e0, p, q, r) in
    record {
      line = spelled_line s b spelling d t ++ z;
      whole = nested ∙ simp append_assoc;
      spelled = grind (arith, spaced_line, b, d, z, before, between, last);
      short = spelled_line-short s t b d z spelling a source.0 target.0 short short' few label;
    }
