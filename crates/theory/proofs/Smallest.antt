-- If a system is equivalent to A, then it has at least as many states as the quotient of A. The reason is that the
-- equivalent system has at least one state for each state of the quotient.
use Rattle.std.proofs.Common.{◌≡◌, ℕ, ◌<◌, ◌≤◌, List, inl, inr, arith}
use Rattle.theory.specs.System.{System, IsSystem, AnyStep, Reachable}
use Rattle.theory.specs.Bisimulation.{Matches, IsBisimulation, Pairs, Bisimilar, Equivalent}
use Rattle.theory.specs.declared.relation.Relation.{Relation}
use Rattle.theory.specs.declared.relation.Relation.TheVariants.{Strong, Branching}
use Rattle.theory.specs.Quotient.{Number, Quotient}
use Rattle.theory.proofs.Deciding.{both, some_below}
use Rattle.theory.proofs.Paths.{leads_keeps, reachable_below}
use Rattle.theory.proofs.Bisimulations.{pairs_decided}
use Rattle.theory.proofs.Turning.{bisimilar_through}
use Rattle.theory.proofs.Counting.{block_count, block_count_at_most, numbered_count}
use Rattle.theory.proofs.Leaders.{reachable_decided}
use Rattle.theory.proofs.Numbers.{number_of, number_once, number_carried, first_number, number_below, number_taken}

-- Suppose that the state t matches each step of the state s, with respect to the relation R. If some step leads from s
-- to the state s', then R relates s' to some state.
answered : (rel : Relation) (A B : System) (R : ℕ → ℕ → Type 0) (s t : ℕ) → Matches rel A B R s t →
    (s' : ℕ) → AnyStep A s s' → (t' : ℕ) × R s' t'
answered Strong A B R s t answers s' step = (let found = answers step.0 s' step.1 in (found.0, found.2))
answered Branching A B R s t answers s' step = elim (answers step.0 s' step.1) [
  | inl rests ↦ (t, rests.1)
  | inr goes ↦ (goes.1, goes.5)
]

-- If a bisimulation relates the first states of two systems, it relates each reachable state of the first system to
-- some state of the second system.
reachable_related : (rel : Relation) (A B : System) (R : ℕ → ℕ → Type 0) → IsBisimulation rel A B R →
    R A.first B.first →
    (s : ℕ) → Reachable A s → (t : ℕ) × R s t
reachable_related rel A B R bisimulation first s path =
    leads_keeps (AnyStep A) (λ s. (t : ℕ) × R s t)
    (λ s s' step h. answered rel A B R s h.0 (bisimulation.forth s h.0 h.1) s' step) A.first s path (B.first, first)

module _ (rel : Relation) (A Q B : System) (sys : IsSystem A) (quotient : Quotient rel A Q) (pairs : List (ℕ × ℕ))
    (bisimulation : IsBisimulation rel A B (Pairs pairs)) (first : Pairs pairs A.first B.first) where
  -- `Met` holds if the bisimulation relates some reachable state of A to the state t of B.
  abbrev Met : ℕ → Type 0
  Met t = (s : ℕ) × (s < A.states) × (Reachable A s × Pairs pairs s t)

  met_decided : (t : ℕ) → Dec (Met t)
  met_decided t = some_below (λ s. Reachable A s × Pairs pairs s t)
      (λ s. both (reachable_decided rel A sys s) (pairs_decided pairs s t)) A.states

  -- Let t be a state of B. One quotient state represents all reachable states of A that the bisimulation relates to t.
  -- Returns this quotient state, or 0 if the bisimulation relates no reachable state of A to t.
  number_at : (t : ℕ) → Dec (Met t) → ℕ
  number_at t (yes h) = (number_of rel A sys h.0 h.2.0).0
  number_at t (no f) = 0

  number_at_below : (t : ℕ) (d : Dec (Met t)) → number_at t d < Q.states
  unfolding number_at
  number_at_below t (yes h) =
      number_below rel A sys Q.states quotient.states h.0 (number_of rel A sys h.0 h.2.0).0
      (number_of rel A sys h.0 h.2.0).1
  number_at_below t (no f) = number_below rel A sys Q.states quotient.states A.first 0 (first_number rel A sys)

  number_at_is : (t s n : ℕ) → Reachable A s → Pairs pairs s t → Number rel A s n → (d : Dec (Met t)) →
      number_at t d ≡ n
  unfolding number_at
  number_at_is t s n path related number (yes h) =
      let alike : Bisimilar rel A s A h.0 =
      bisimilar_through rel A sys B s h.0 t (pairs, bisimulation, related) (pairs, bisimulation, h.2.1) in
      number_once rel A sys h.0 (number_of rel A sys h.0 h.2.0).0 n (number_of rel A sys h.0 h.2.0).1
      (number_carried rel A sys s h.0 n alike number)
  number_at_is t s n path related number (no f) = absurd (f (s, reachable_below A sys s path, (path, related)))

  -- The function `number_at` maps each state t of B to a quotient state, which represents the reachable states of A
  -- that the bisimulation relates to t. For each quotient state n, the function maps some state of B to n.
  number_used : (n : ℕ) → n < Q.states → (t : ℕ) × (t < B.states) × (number_at t (met_decided t) ≡ n)
  number_used n low =
      let taken : (s : ℕ) × Reachable A s × Number rel A s n = number_taken rel A sys Q.states quotient.states n low in
      let met : (t : ℕ) × Pairs pairs taken.0 t =
      reachable_related rel A B (Pairs pairs) bisimulation first taken.0 taken.1 in (
        met.0,
        (bisimulation.states taken.0 met.0 met.1).1,
        number_at_is met.0 taken.0 n taken.1 met.1 taken.2 (met_decided met.0),
      )

  numbers_fit : Q.states ≤ B.states
  numbers_fit =
      let blocks : ℕ → ℕ = λ t. number_at t (met_decided t) in
      let count : block_count B blocks ≡ Q.states =
      numbered_count B blocks Q.states (λ t l. number_at_below t (met_decided t)) number_used in
      omega (arith, count, block_count_at_most B blocks)

-- If a system is equivalent to A, then it has at least as many states as the quotient of A.
pub quotient_smallest : (rel : Relation) (A Q B : System) → IsSystem A → Quotient rel A Q → Equivalent rel A B →
    Q.states ≤ B.states
quotient_smallest rel A Q B sys quotient (pairs, bisimulation, first) =
    numbers_fit rel A Q B sys quotient pairs bisimulation first
