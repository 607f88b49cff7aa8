-- A leader is a state that represents its class. In the quotient, each class of bisimilar reachable states becomes one
-- state, and the class number of the class is the number of this quotient state. This file computes the class numbers
-- of states from a list of all leaders. The lemmas prove that these class numbers are correct.
use Rattle.std.proofs.Common.{◌≡◌, ◌≢◌, ◌⊎◌, ◌↔◌, ℕ, ◌+◌, ◌<◌, Bool, true, not, cond, eqb, ltb, ltb-true, List, length}
use Rattle.std.proofs.Common.{filter, Contains, refl, sym, ◌∙◌, ap, inl, inr}
use Rattle.std.proofs.lemmas.Bool.{eq-eqb, lt-ltb, ne_eqb, cases_eq, not_from_false}
use Rattle.std.proofs.lemmas.List.Kept.{IsStrictlyIncreasing-filter}
use Rattle.theory.specs.System.{System, Reachable}
use Rattle.theory.specs.Bisimulation.{Bisimilar}
use Rattle.theory.specs.declared.relation.Relation.{Relation}
use Rattle.theory.specs.Blocks.{Share}
use Rattle.theory.specs.Quotient.{HowMany, IsLeader, Number}
use Rattle.tests_theory.proofs.Testing.{and_then, and_then_parts, and_then_from, not_passes}
use Rattle.theory.proofs.CallerLemmas.{how_many_unique, leader_unique}
use Rattle.lts.proofs.CallerLemmas.{contains_passing, passing_contains}
use Rattle.tests_theory.proofs.Testing.Rising.{rises, rises_passes}
use Rattle.tests_theory.proofs.Testing.Leading.{are_leaders, leader_is, leader_listed, listed_leads}

-- `is_before` returns true if the state m is less than the state l and is not the first state.
abbrev pub is_before : System → ℕ → ℕ → Bool
is_before A l m = and_then (ltb m l) (λ _. not (eqb m A.first))

-- `number_at` returns the class number of the class that the leader l represents, which is the number of the quotient
-- state that this class becomes. The class number is 0 if l is the first state. Otherwise, the class number is 1 plus
-- the number of leaders that are smaller than l and are not the first state.
abbrev pub number_at : System → List ℕ → ℕ → ℕ
number_at A leaders l = cond (eqb l A.first) 0 (1 + length (filter (is_before A l) leaders))

at_first : (A : System) (leaders : List ℕ) (l : ℕ) → l ≡ A.first → number_at A leaders l ≡ 0
at_first A leaders l e =
    ap (λ v. cond v 0 (1 + length (filter (is_before A l) leaders))) (eq-eqb l A.first e)

at_other : (A : System) (leaders : List ℕ) (l : ℕ) → l ≢ A.first →
    number_at A leaders l ≡ 1 + length (filter (is_before A l) leaders)
at_other A leaders l d =
    ap (λ v. cond v 0 (1 + length (filter (is_before A l) leaders))) (ne_eqb l A.first d)

module _ (rel : Relation) (A : System) (block lead : ℕ → ℕ) (leaders : List ℕ)
    (same : (s t : ℕ) → Bisimilar rel A s A t ↔ Share A block s t) (h : are_leaders A block lead leaders ≡ true)
    (up : rises leaders ≡ true) where
  pub leader_count : HowMany (IsLeader rel A) (length leaders)
  leader_count = (
    leaders,
    rises_passes leaders up,
    λ k. (listed_leads rel A block lead leaders same h k, leader_listed rel A block lead leaders same h k),
    refl,
  )

  before_count : (l : ℕ) →
      HowMany (λ m. IsLeader rel A m × (m < l) × (m ≢ A.first)) (length (filter (is_before A l) leaders))
  before_count l = (
    filter (is_before A l) leaders,
    IsStrictlyIncreasing-filter (is_before A l) leaders (rises_passes leaders up),
    λ k. (there k, back k),
    refl,
  )
    where
      there : (k : ℕ) → Contains (filter (is_before A l) leaders) k → IsLeader rel A k × (k < l) × (k ≢ A.first)
      there k c =
          let found = passing_contains (is_before A l) leaders k c in
          let parts = and_then_parts (ltb k l) (λ _. not (eqb k A.first)) found.1 in (
            listed_leads rel A block lead leaders same h k found.0,
            ltb-true k l parts.0,
            λ e. not_passes (eqb k A.first) parts.1 (eq-eqb k A.first e),
          )

      back : (k : ℕ) → IsLeader rel A k × (k < l) × (k ≢ A.first) → Contains (filter (is_before A l) leaders) k
      back k (leads, low, other) =
          contains_passing (is_before A l) leaders k (leader_listed rel A block lead leaders same h k leads)
          (and_then_from (ltb k l) (λ _. not (eqb k A.first)) (lt-ltb k l low)
          (not_from_false (eqb k A.first) (ne_eqb k A.first other)))

  pub number_is : (s : ℕ) → Reachable A s → Number rel A s (number_at A leaders (lead s))
  number_is s path = (
    lead s,
    leader_is rel A block lead leaders same h s path,
    elim (cases_eq (lead s) A.first) [
      | inl e ↦ inl (e, at_first A leaders (lead s) e)
      | inr d ↦
          inr (d, length (filter (is_before A (lead s)) leaders), before_count (lead s), at_other A leaders (lead s) d)
    ],
  )

  pub number_unique : (s n : ℕ) → Reachable A s → Number rel A s n → number_at A leaders (lead s) ≡ n
  number_unique s n path (l, leader, choice) = go choice
    where
      e : lead s ≡ l
      e = leader_unique rel A s (lead s) l (leader_is rel A block lead leaders same h s path) leader

      go : ((l ≡ A.first) × (n ≡ 0))
          ⊎ ((l ≢ A.first) × (k : ℕ) × HowMany (λ m. IsLeader rel A m × (m < l) × (m ≢ A.first)) k × (n ≡ 1 + k)) →
          number_at A leaders (lead s) ≡ n
      go (inl p) = at_first A leaders (lead s) (e ∙ p.0) ∙ sym p.1
      go (inr (d, k, many, is)) =
          ap (number_at A leaders) e ∙ at_other A leaders l d
          ∙ ap (λ z. 1 + z) (how_many_unique (λ m. IsLeader rel A m × (m < l) × (m ≢ A.first))
          (length (filter (is_before A l) leaders)) k (before_count l) many)
          ∙ sym is
