-- Lemmas about strictly increasing lists of numbers. If two such lists contain the same numbers, they have the same
-- length.
use Rattle.std.proofs.Common.{◌≡◌, ◌↔◌, ℕ, suc, ◌+◌, ◌<◌, ◌≤◌, List, [], ◌∷◌, ◌++◌, length, slice_index, Contains, sym}
use Rattle.std.proofs.Common.{◌∙◌, ap, subst, subst₂, inl, inr, arith, le_antisymm, zero-le, length-append}
use Rattle.std.specs.List.Sorted.{IsStrictlyIncreasing}
use Rattle.std.proofs.lemmas.Bool.{cases_eq}
use Rattle.std.proofs.lemmas.List.{get_or_append_left}
use Rattle.std.proofs.Math.Seq.{get_or-append_seam}
use Rattle.std.proofs.lemmas.List.Elements.{Contains-get_or}
use Rattle.theory.proofs.Deciding.{contains_here, contains_there, contains_cases, contains_none}

-- `Rising` holds if the list is strictly increasing, and all of its numbers are at least `lo`.
Rising : ℕ → List ℕ → Type 0
Rising lo [] = Unit {0}
Rising lo (x ∷ xs) = (lo ≤ x) × Rising (suc x) xs

rising_from : (lo : ℕ) (xs : List ℕ) → (0 < length xs → lo ≤ slice_index xs 0) → IsStrictlyIncreasing xs → Rising lo xs
unfolding Rising
rising_from lo [] low up = tt
rising_from lo (x ∷ xs) low up = (
  low (omega arith),
  rising_from (suc x) xs (λ l. up 0 (omega arith)) (λ k l.
      let e : suc k + 1 ≡ suc (k + 1) = omega arith in
      subst (λ z. slice_index xs k < slice_index (x ∷ xs) z) e (up (suc k) (omega (arith, l)))),
)

rising_low : (lo : ℕ) (xs : List ℕ) (k : ℕ) → Rising lo xs → Contains xs k → lo ≤ k
unfolding Rising
rising_low lo [] k up c = absurd (contains_none k c)
rising_low lo (x ∷ xs) k up c = elim (contains_cases x xs k c) [
  | inl e ↦ subst (λ z. lo ≤ z) e up.0
  | inr d ↦ (let above : suc x ≤ k = rising_low (suc x) xs k up.1 d in let low : lo ≤ x = up.0 in omega arith)
]

-- If a strictly increasing list ys contains all numbers of a strictly increasing list xs, then ys is at least as long
-- as xs.
shorter : (lo : ℕ) (ys xs : List ℕ) → Rising lo ys → Rising lo xs → ((k : ℕ) → Contains xs k → Contains ys k) →
    length xs ≤ length ys
unfolding Rising
shorter lo ys [] up vp among = zero-le
shorter lo [] (x ∷ xs) up vp among = absurd (contains_none x (among x (contains_here x xs)))
shorter lo (y ∷ ys) (x ∷ xs) up vp among = elim (contains_cases y ys x (among x (contains_here x xs))) [
  | inl e ↦ (
      let rest : length xs ≤ length ys = shorter (suc x) ys xs (subst (λ z. Rising (suc z) ys) e up.1) vp.1
      (λ k c. elim (contains_cases y ys k (among k (contains_there x xs k c))) [
        | inl f ↦ (let above : suc x ≤ k = rising_low (suc x) xs k vp.1 c in absurd (omega (arith, e, f)))
        | inr d ↦ d
      ]) in
      omega arith)
  | inr d ↦ (
      let above : suc y ≤ x = rising_low (suc y) ys x up.1 d in
      let rest : suc (length xs) ≤ length ys = shorter (suc y) ys (x ∷ xs) up.1 (above, vp.1)
      (λ k c. elim (contains_cases y ys k (among k c)) [
        | inl f ↦ (let low : suc y ≤ k = rising_low (suc y) (x ∷ xs) k (above, vp.1) c in absurd (omega (arith, f)))
        | inr e ↦ e
      ]) in
      omega arith)
]

-- If two strictly increasing lists contain the same numbers, they have the same length.
pub same_length :
    (xs ys : List ℕ) → IsStrictlyIncreasing xs → IsStrictlyIncreasing ys → ((k : ℕ) → Contains xs k ↔ Contains ys k) →
    length xs ≡ length ys
same_length xs ys up vp same =
    let one = rising_from 0 xs (λ _. zero-le) up in
    let two = rising_from 0 ys (λ _. zero-le) vp in
    le_antisymm (shorter 0 ys xs two one (λ k. (same k).0)) (shorter 0 xs ys one two (λ k. (same k).1))

-- Suppose that n is greater than all numbers of a strictly increasing list. If n is appended to the list, the result is
-- strictly increasing.
pub rising_on : (xs : List ℕ) (n : ℕ) → IsStrictlyIncreasing xs → ((k : ℕ) → Contains xs k → k < n) →
    IsStrictlyIncreasing (xs ++ n ∷ [])
rising_on xs n up low k l = elim (cases_eq (k + 1) (length xs)) [
  | inl e ↦
      let before : slice_index xs k < n = low (slice_index xs k) (Contains-get_or xs k 0 (omega (arith, e))) in
      subst₂ (λ x y. x < y) (sym (get_or_append_left xs (n ∷ []) 0 k (omega (arith, e))))
      (sym (ap (λ j. slice_index (xs ++ n ∷ []) j) e ∙ get_or-append_seam xs n [] 0)) before
  | inr d ↦
      let within : k + 1 < length xs = omega (arith, l, d, length-append xs (n ∷ [])) in
      subst₂ (λ x y. x < y) (sym (get_or_append_left xs (n ∷ []) 0 k (omega (arith, within))))
      (sym (get_or_append_left xs (n ∷ []) 0 (k + 1) within)) (up k within)
]
