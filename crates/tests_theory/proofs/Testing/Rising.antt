-- Tests whether a list of numbers is strictly increasing.
use Rattle.std.proofs.Common.{◌≡◌, ℕ, ◌+◌, Bool, true, not, ltb, ltb-true, List, length, slice_index, inl, inr, arith}
use Rattle.std.proofs.lemmas.Bool.{lt-ltb}
use Rattle.std.specs.List.Sorted.{IsStrictlyIncreasing}
use Rattle.tests_theory.proofs.Testing.{or_else, or_else_cases, not_passes, each_below, each_below_passes}

-- `rises` returns true if each number in the list is less than the next one.
abbrev pub rises : List ℕ → Bool
rises xs =
    each_below (length xs) (λ k. or_else (not (ltb (k + 1) (length xs)))
    (λ _. ltb (slice_index xs k) (slice_index xs (k + 1))))

pub rises_passes : (xs : List ℕ) → rises xs ≡ true → IsStrictlyIncreasing xs
rises_passes xs h k l =
    elim (or_else_cases (not (ltb (k + 1) (length xs))) (λ _. ltb (slice_index xs k) (slice_index xs (k + 1)))
    (each_below_passes (length xs)
    (λ k. or_else (not (ltb (k + 1) (length xs))) (λ _. ltb (slice_index xs k) (slice_index xs (k + 1))))
    h k (omega (arith, l)))) [
      | inl n ↦ absurd (not_passes (ltb (k + 1) (length xs)) n (lt-ltb (k + 1) (length xs) l))
      | inr q ↦ ltb-true (slice_index xs k) (slice_index xs (k + 1)) q
    ]
