-- If a symmetric relation holds for any two elements of a list, then the relation holds for any two elements of each
-- permutation of the list.
use Rattle.std.proofs.Common.{◌≡◌, ◌≢◌, ◌⊎◌, ℕ, ◌<◌, List, length, get_or, swap, AllPairs, refl, ap, ◌∙◌, inl, inr}
use Rattle.std.proofs.Common.{arith}
use Rattle.std.specs.List.Sorted.{IsPermutation}
use Rattle.std.proofs.lemmas.Bool.{cases_eq}
use Rattle.std.proofs.lemmas.Bool.Decides.{leb_tells}
use Rattle.std.proofs.lemmas.List.Edits.{length-swap, swapped_from_swap}
use Rattle.std.proofs.lemmas.List.Sorted.{IsPermutation-keeps}

-- `Stood` holds if the element that is at the index k of a list after a swap was at the index m before the swap. The
-- swap exchanges the elements at the indices i and j.
abbrev Stood : ℕ → ℕ → ℕ → ℕ → Type 0
Stood i j k m = ((k ≡ i) × (m ≡ j)) ⊎ (((k ≡ j) × (m ≡ i)) ⊎ ((k ≢ i) × (k ≢ j) × (m ≡ k)))

stood : {X : Type 0} (xs : List X) (i j : ℕ) (d : X) → i < length xs → j < length xs → (k : ℕ) → k < length xs →
    (m : ℕ) × (m < length xs) × (get_or (swap xs i j) k d ≡ get_or xs m d) × Stood i j k m
stood xs i j d p q k inside =
    let is = swapped_from_swap xs (swap xs i j) i j d p q refl in
    elim (cases_eq k i) [
      | inl e ↦ (j, q, ap (λ n. get_or (swap xs i j) n d) e ∙ is.0, inl (e, refl))
      | inr e ↦ elim (cases_eq k j) [
        | inl e' ↦ (i, p, ap (λ n. get_or (swap xs i j) n d) e' ∙ is.1, inr (inl (e', refl)))
        | inr e' ↦ (k, inside, is.2 k e e', inr (inr (e, e', refl)))
      ]
    ]

-- Suppose that two elements of a list are swapped. If two elements are at different indices after the swap, they were
-- at different indices before the swap.
differ : (i j a b m n : ℕ) → Stood i j a m → Stood i j b n → a ≢ b → m ≢ n
differ i j a b m n one other apart same = omega (arith, one, other, apart, same)

-- The following lemmas assume that the relation R is symmetric.
module _ {X : Type 0} (R : X → X → Type 0) (turn : (x y : X) → R x y → R y x) where
  -- If the symmetric relation R relates each element of a list to each later element, then R relates the elements at
  -- any two different indices.
  two_places : (xs : List X) → AllPairs R xs → (i j : ℕ) (d : X) → i ≢ j → i < length xs → j < length xs →
      R (get_or xs i d) (get_or xs j d)
  two_places xs pairs i j d differ low high = elim (leb_tells i j) [
    | inl p ↦ pairs i j d (omega (arith, p.1, differ)) high
    | inr p ↦ turn (get_or xs j d) (get_or xs i d) (pairs j i d p.1 low)
  ]

  all_pairs_swap : (xs : List X) (i j : ℕ) → i < length xs → j < length xs → AllPairs R xs → AllPairs R (swap xs i j)
  all_pairs_swap xs i j p q pairs a b d below inside =
      let long = length-swap xs i j in
      let from = stood xs i j d p q a (omega arith) in
      let to = stood xs i j d p q b (omega arith) in
      rw (from.2, to.2) (two_places xs pairs from.0 to.0 d (differ i j a b from.0 to.0 from.3 to.3 (omega arith)) from.1
      to.1)

  -- If the symmetric relation R holds for any two elements of a list, then R holds for any two elements of each
  -- permutation of the list.
  pub all_pairs_permutation : (xs ys : List X) → IsPermutation xs ys → AllPairs R xs → AllPairs R ys
  all_pairs_permutation xs ys moved pairs = IsPermutation-keeps xs (AllPairs R) pairs all_pairs_swap ys moved
