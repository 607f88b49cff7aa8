-- Tests whether a given list contains exactly the pairs in the signature of a state.
use Rattle.std.proofs.Common.{◌≡◌, ◌↔◌, ℕ, Bool, true, not, eqb, List, Contains, bytes_eq, refl, sym, ◌∙◌, subst, inl}
use Rattle.std.proofs.Common.{inr}
use Rattle.std.proofs.lemmas.Bool.{eqb-true, eq-eqb}
use Rattle.theory.specs.System.{System, Step, internal}
use Rattle.theory.specs.declared.relation.Relation.{Relation}
use Rattle.theory.specs.declared.relation.Relation.TheVariants.{Strong, Branching}
use Rattle.theory.specs.Blocks.{Signature}
use Rattle.tests_theory.proofs.Testing.{and_then, and_then_parts, and_then_from, or_else, or_else_cases, not_passes}
use Rattle.tests_theory.proofs.Testing.{every, every_passes, every_from, some, some_passes, some_from, each_step}
use Rattle.tests_theory.proofs.Testing.{each_step_passes, some_step, some_step_passes, bytes_same, bytes_pass}
use Rattle.tests_theory.proofs.Testing.Reaching.{covers, is_inert, inert_from, inert_found, inert_only}

-- `Entry` is the type of an entry of a signature. An entry is a pair of a label and a block ID.
abbrev pub Entry : Type 0
Entry = List ℕ × ℕ

-- `has_entry` returns true if the list xs contains the pair of the label x and the block ID n.
abbrev pub has_entry : List Entry → List ℕ → ℕ → Bool
has_entry xs x n = some xs (λ p. and_then (bytes_eq p.0 x) (λ _. eqb p.1 n))

pub has_entry_contains : (xs : List Entry) (x : List ℕ) (n : ℕ) → has_entry xs x n ≡ true → Contains xs (x, n)
has_entry_contains xs x n h =
    let found = some_passes xs (λ p. and_then (bytes_eq p.0 x) (λ _. eqb p.1 n)) h in
    let parts = and_then_parts (bytes_eq found.0.0 x) (λ _. eqb found.0.1 n) found.2 in
    subst (λ z. Contains xs (z, n)) (bytes_same found.0.0 x parts.0)
    (subst (λ z. Contains xs (found.0.0, z)) (eqb-true found.0.1 n parts.1) found.1)

pub contains_has_entry : (xs : List Entry) (x : List ℕ) (n : ℕ) → Contains xs (x, n) → has_entry xs x n ≡ true
contains_has_entry xs x n c =
    some_from xs (λ p. and_then (bytes_eq p.0 x) (λ _. eqb p.1 n)) (x, n) c
    (and_then_from (bytes_eq x x) (λ _. eqb n n) (bytes_pass x x refl) (eq-eqb n n refl))

-- `from_step` returns true if the state u has a transition that belongs to the pair p. The pair p consists of a label
-- and a block ID: the transition must have this label, and must lead to a state of this block.
abbrev pub from_step : System → (ℕ → ℕ) → ℕ → Entry → Bool
from_step A blocks u p = some_step A.transitions u (λ x t. and_then (bytes_eq x p.0) (λ _. eqb (blocks t) p.1))

from_step_found : (A : System) (blocks : ℕ → ℕ) (u : ℕ) (p : Entry) → from_step A blocks u p ≡ true →
    (t : ℕ) × Step A u p.0 t × (blocks t ≡ p.1)
from_step_found A blocks u p h =
    let found = some_step_passes A.transitions u (λ x t. and_then (bytes_eq x p.0) (λ _. eqb (blocks t) p.1)) h in
    let parts = and_then_parts (bytes_eq found.0 p.0) (λ _. eqb (blocks found.1) p.1) found.3 in (
      found.1,
      subst (λ z. Step A u z found.1) (bytes_same found.0 p.0 parts.0) found.2,
      eqb-true (blocks found.1) p.1 parts.1,
    )

-- `own` returns true if x is the internal label and n is the ID of the block of the state s. A branching signature of s
-- never contains the pair of this label and this block ID.
abbrev pub own : (ℕ → ℕ) → ℕ → List ℕ → ℕ → Bool
own blocks s x n = and_then (bytes_eq x internal) (λ _. eqb n (blocks s))

own_pass : (blocks : ℕ → ℕ) (s : ℕ) (x : List ℕ) (n : ℕ) → own blocks s x n ≡ true → (x ≡ internal) × (n ≡ blocks s)
own_pass blocks s x n h =
    let parts = and_then_parts (bytes_eq x internal) (λ _. eqb n (blocks s)) h in
    (bytes_same x internal parts.0, eqb-true n (blocks s) parts.1)

-- `in_list` returns true if the list xs contains every entry in the signature of the state s.
abbrev pub in_list : Relation → System → (ℕ → ℕ) → ℕ → List Entry → Bool
in_list Strong A blocks s xs = each_step A.transitions s (λ x t. has_entry xs x (blocks t))
in_list Branching A blocks s xs =
    and_then (covers A.transitions (is_inert blocks) (inert_from A blocks s) s) (λ _.
    every (inert_from A blocks s) (λ u.
    each_step A.transitions u (λ x t. or_else (own blocks s x (blocks t)) (λ _. has_entry xs x (blocks t)))))

-- `in_signature` returns true if the signature of the state s contains every entry in the list xs.
abbrev pub in_signature : Relation → System → (ℕ → ℕ) → ℕ → List Entry → Bool
in_signature Strong A blocks s xs = every xs (λ p. from_step A blocks s p)
in_signature Branching A blocks s xs =
    every xs (λ p. and_then (not (own blocks s p.0 p.1)) (λ _. some (inert_from A blocks s)
    (λ u. from_step A blocks u p)))

in_list_holds :
    (rel : Relation) (A : System) (blocks : ℕ → ℕ) (s : ℕ) (xs : List Entry) → in_list rel A blocks s xs ≡ true →
    (x : List ℕ) (n : ℕ) → Signature rel A blocks s x n → Contains xs (x, n)
in_list_holds Strong A blocks s xs h x n (t, step, e) =
    subst (λ z. Contains xs (x, z)) e
    (has_entry_contains xs x (blocks t) (each_step_passes A.transitions s
    (λ x t. has_entry xs x (blocks t)) h x t step))
in_list_holds Branching A blocks s xs h x n (u, t, path, step, e, other) =
    let parts = and_then_parts (covers A.transitions (is_inert blocks) (inert_from A blocks s) s) (λ _.
    every (inert_from A blocks s) (λ u.
    each_step A.transitions u (λ x t. or_else (own blocks s x (blocks t)) (λ _. has_entry xs x (blocks t))))) h in
    let here = every_passes (inert_from A blocks s) (λ u.
    each_step A.transitions u (λ x t. or_else (own blocks s x (blocks t)) (λ _. has_entry xs x (blocks t))))
    parts.1 u (inert_only A blocks s u parts.0 path) in
    let test = each_step_passes A.transitions u
    (λ x t. or_else (own blocks s x (blocks t)) (λ _. has_entry xs x (blocks t))) here x t step in
    elim (or_else_cases (own blocks s x (blocks t)) (λ _. has_entry xs x (blocks t)) test) [
      | inl o ↦ (
          let both = own_pass blocks s x (blocks t) o in
          absurd (other (both.0, sym e ∙ both.1)))
      | inr q ↦ subst (λ z. Contains xs (x, z)) e (has_entry_contains xs x (blocks t) q)
    ]

in_signature_holds :
    (rel : Relation) (A : System) (blocks : ℕ → ℕ) (s : ℕ) (xs : List Entry) → in_signature rel A blocks s xs ≡ true →
    (x : List ℕ) (n : ℕ) → Contains xs (x, n) → Signature rel A blocks s x n
in_signature_holds Strong A blocks s xs h x n c =
    from_step_found A blocks s (x, n) (every_passes xs (λ p. from_step A blocks s p) h (x, n) c)
in_signature_holds Branching A blocks s xs h x n c =
    let test = every_passes xs
    (λ p. and_then (not (own blocks s p.0 p.1)) (λ _. some (inert_from A blocks s) (λ u. from_step A blocks u p)))
    h (x, n) c in
    let parts = and_then_parts (not (own blocks s x n)) (λ _. some (inert_from A blocks s)
    (λ u. from_step A blocks u (x, n))) test in
    let found = some_passes (inert_from A blocks s) (λ u. from_step A blocks u (x, n)) parts.1 in
    let step = from_step_found A blocks found.0 (x, n) found.2 in (
      found.0,
      step.0,
      inert_found A blocks s found.0 found.1,
      step.1,
      step.2,
      λ both. not_passes (own blocks s x n) parts.0
          (and_then_from (bytes_eq x internal) (λ _. eqb n (blocks s)) (bytes_pass x internal both.0)
          (eq-eqb n (blocks s) both.1)),
    )

-- `lists_signature` returns true if the list xs contains exactly the entries in the signature of the state s.
abbrev pub lists_signature : Relation → System → (ℕ → ℕ) → ℕ → List Entry → Bool
lists_signature rel A blocks s xs = and_then (in_list rel A blocks s xs) (λ _. in_signature rel A blocks s xs)

-- If `lists_signature` returns true, the list xs contains exactly the entries in the signature of the state s.
pub signature_passes : (rel : Relation) (A : System) (blocks : ℕ → ℕ) (s : ℕ) (xs : List Entry) →
    lists_signature rel A blocks s xs ≡ true →
    (x : List ℕ) (n : ℕ) → Signature rel A blocks s x n ↔ Contains xs (x, n)
signature_passes rel A blocks s xs h x n =
    let parts = and_then_parts (in_list rel A blocks s xs) (λ _. in_signature rel A blocks s xs) h in
    (in_list_holds rel A blocks s xs parts.0 x n, in_signature_holds rel A blocks s xs parts.1 x n)

-- `same_entries` returns true if the lists xs and ys contain the same entries.
abbrev pub same_entries : List Entry → List Entry → Bool
same_entries xs ys = and_then (every xs (λ p. has_entry ys p.0 p.1)) (λ _. every ys (λ p. has_entry xs p.0 p.1))

pub same_entries_there :
    (xs ys : List Entry) → same_entries xs ys ≡ true → (x : List ℕ) (n : ℕ) → Contains xs (x, n) ↔ Contains ys (x, n)
same_entries_there xs ys h x n =
    let parts = and_then_parts (every xs (λ p. has_entry ys p.0 p.1)) (λ _. every ys (λ p. has_entry xs p.0 p.1)) h in (
      λ c. has_entry_contains ys x n (every_passes xs (λ p. has_entry ys p.0 p.1) parts.0 (x, n) c),
      λ c. has_entry_contains xs x n (every_passes ys (λ p. has_entry xs p.0 p.1) parts.1 (x, n) c),
    )

pub same_entries_back :
    (xs ys : List Entry) → ((x : List ℕ) (n : ℕ) → Contains xs (x, n) ↔ Contains ys (x, n)) → same_entries xs ys ≡ true
same_entries_back xs ys h =
    and_then_from (every xs (λ p. has_entry ys p.0 p.1)) (λ _. every ys (λ p. has_entry xs p.0 p.1))
    (every_from xs (λ p. has_entry ys p.0 p.1) (λ p c. contains_has_entry ys p.0 p.1 ((h p.0 p.1).0 c)))
    (every_from ys (λ p. has_entry xs p.0 p.1) (λ p c. contains_has_entry xs p.0 p.1 ((h p.0 p.1).1 c)))
