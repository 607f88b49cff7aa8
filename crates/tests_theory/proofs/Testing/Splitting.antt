-- Tests whether given blocks result from splitting other given blocks by the signatures of the states.
use Rattle.std.proofs.Common.{◌≡◌, ◌↔◌, ℕ, ◌<◌, Bool, true, eqb, List, [], Contains, slice_index}
use Rattle.std.specs.List.{slice_index_or}
use Rattle.std.proofs.lemmas.Bool.{eqb-true, eq-eqb}
use Rattle.theory.specs.System.{System}
use Rattle.theory.specs.declared.relation.Relation.{Relation}
use Rattle.theory.specs.Blocks.{Signature, SameSignature, Split}
use Rattle.tests_theory.specs.Examples.{SplitsBy}
use Rattle.tests_theory.proofs.Testing.{and_then, and_then_parts, and_then_from, each_below, each_below_passes}
use Rattle.tests_theory.proofs.Testing.{same_answer, same_answer_there, same_answer_back}
use Rattle.tests_theory.proofs.Testing.Signing.{Entry, lists_signature, signature_passes, same_entries}
use Rattle.tests_theory.proofs.Testing.Signing.{same_entries_there, same_entries_back}

-- `stays` returns true if the states s and t share a block of `old` and have the same pairs in their signatures. The
-- argument `signs` is the function that gives the signature of each state as a list of pairs.
abbrev pub stays : (ℕ → ℕ) → (ℕ → List Entry) → ℕ → ℕ → Bool
stays old signs s t = and_then (eqb (old s) (old t)) (λ _. same_entries (signs s) (signs t))

-- `is_split` returns true if the function `signs` gives the signature of each state with respect to the blocks `old`,
-- and the blocks `new` result from splitting `old` by these signatures.
abbrev pub is_split : Relation → System → (ℕ → ℕ) → (ℕ → ℕ) → (ℕ → List Entry) → Bool
is_split rel A old new signs =
    and_then (each_below A.states (λ s. lists_signature rel A old s (signs s))) (λ _.
    each_below A.states (λ s. each_below A.states (λ t. same_answer (eqb (new s) (new t)) (stays old signs s t))))

-- If `is_split` returns true, then the function `signs` gives the signature of each state with respect to the blocks
-- `old`.
listed_signatures :
    (rel : Relation) (A : System) (old new : ℕ → ℕ) (signs : ℕ → List Entry) → is_split rel A old new signs ≡ true →
    (s : ℕ) → s < A.states → (x : List ℕ) (n : ℕ) → Signature rel A old s x n ↔ Contains (signs s) (x, n)
listed_signatures rel A old new signs h s l = signature_passes rel A old s (signs s)
    (each_below_passes A.states (λ s. lists_signature rel A old s (signs s))
    (and_then_parts (each_below A.states (λ s. lists_signature rel A old s (signs s))) (λ _.
    each_below A.states (λ s. each_below A.states (λ t. same_answer (eqb (new s) (new t)) (stays old signs s t)))) h).0
    s l)

module _ (rel : Relation) (A : System) (old new : ℕ → ℕ) (signs : ℕ → List Entry)
    (h : is_split rel A old new signs ≡ true) where
  listed : (u : ℕ) → u < A.states → (x : List ℕ) (n : ℕ) → Signature rel A old u x n ↔ Contains (signs u) (x, n)
  listed = listed_signatures rel A old new signs h

  split_test : (s t : ℕ) → s < A.states → t < A.states → same_answer (eqb (new s) (new t)) (stays old signs s t) ≡ true
  split_test s t ls lt = each_below_passes A.states (λ v. same_answer (eqb (new s) (new v)) (stays old signs s v))
      (each_below_passes A.states
      (λ u. each_below A.states (λ v. same_answer (eqb (new u) (new v)) (stays old signs u v)))
      (and_then_parts (each_below A.states (λ s. lists_signature rel A old s (signs s))) (λ _.
      each_below A.states (λ s. each_below A.states (λ t. same_answer (eqb (new s) (new t)) (stays old signs s t))))
      h).1
      s ls) t lt

  split_there : (s t : ℕ) → s < A.states → t < A.states → new s ≡ new t → (old s ≡ old t) × SameSignature rel A old s t
  split_there s t ls lt e =
      let both = and_then_parts (eqb (old s) (old t)) (λ _. same_entries (signs s) (signs t))
      (same_answer_there (eqb (new s) (new t)) (stays old signs s t) (split_test s t ls lt)
      (eq-eqb (new s) (new t) e)) in
      let lists = same_entries_there (signs s) (signs t) both.1 in (
        eqb-true (old s) (old t) both.0,
        λ x n. (
          λ g. (listed t lt x n).1 ((lists x n).0 ((listed s ls x n).0 g)),
          λ g. (listed s ls x n).1 ((lists x n).1 ((listed t lt x n).0 g)),
        ),
      )

  split_back : (s t : ℕ) → s < A.states → t < A.states → (old s ≡ old t) × SameSignature rel A old s t → new s ≡ new t
  split_back s t ls lt k = eqb-true (new s) (new t)
      (same_answer_back (eqb (new s) (new t)) (stays old signs s t) (split_test s t ls lt)
      (and_then_from (eqb (old s) (old t)) (λ _. same_entries (signs s) (signs t)) (eq-eqb (old s) (old t) k.0)
      (same_entries_back (signs s) (signs t)
      (λ x n. (
        λ c. (listed t lt x n).0 ((k.1 x n).0 ((listed s ls x n).1 c)),
        λ c. (listed s ls x n).0 ((k.1 x n).1 ((listed t lt x n).1 c)),
      )))))

  -- If `is_split` returns true, then splitting the blocks `old` by signatures gives the blocks `new`.
  pub split_passes : Split rel A old new
  split_passes s t ls lt = (split_there s t ls lt, split_back s t ls lt)

-- Suppose that `is_split` returns true for the lists `old`, `pairs` and `new`. Then `pairs` contains the signature of
-- each state with respect to the blocks `old`, and splitting `old` by these signatures gives the blocks `new`.
pub splits_by :
    (rel : Relation) (A : System) (old : List ℕ) (pairs : List (List Entry)) (new : List ℕ) →
    is_split rel A (slice_index old) (slice_index new) (λ s. slice_index_or pairs s []) ≡ true →
    SplitsBy rel A old pairs new
splits_by rel A old pairs new h = record {
  signatures = listed_signatures rel A (slice_index old) (slice_index new) (λ s. slice_index_or pairs s []) h;
  split = split_passes rel A (slice_index old) (slice_index new) (λ s. slice_index_or pairs s []) h;
}
