-- The relation between the reachable states and the quotient states that represent them is a bisimulation. So each
-- reachable state is bisimilar to the quotient state that represents it, and the quotient is equivalent to the system.
use Rattle.std.proofs.Common.{ℕ, List, sym, subst, inl, inr}
use Rattle.theory.specs.System.{System, IsSystem, Transition, Step, Internal, Silent, internal}
use Rattle.theory.specs.Bisimulation.{Matches, IsBisimulation, Bisimilar, Equivalent, Converse}
use Rattle.theory.specs.declared.relation.Relation.{Relation}
use Rattle.theory.specs.declared.relation.Relation.TheVariants.{Strong, Branching}
use Rattle.theory.specs.Quotient.{Number, IsQuotientStep, Quotient}
use Rattle.theory.proofs.Paths.{leads_here, leads_on, leads_answered, reachable_below, reachable_on}
use Rattle.theory.proofs.Bisimulations.{bisimilar_by}
use Rattle.theory.proofs.Leaders.{first_reachable}
use Rattle.theory.proofs.Numbers.{number_once, number_carried, same_number_bisimilar, number_decided, first_number}
use Rattle.theory.proofs.QuotientLaws.{Numbered, reachable_silent, number_state, step_numbered}

-- `Fellows` holds if there are states x and y of the system A such that x is bisimilar to the state s, and a step with
-- the label a leads from x to y. The quotient state n must represent x, and the quotient state m must represent y.
abbrev Fellows : Relation → System → ℕ → ℕ → List ℕ → ℕ → Type 0
Fellows rel A s n a m = (x y : ℕ) × Bisimilar rel A x A s × Step A x a y × Number rel A x n × Number rel A y m

-- Let n be the quotient state that represents the state s, and let the quotient have a step with the label a from n to
-- the quotient state m. Then some state that is bisimilar to s has a step with the label a to a state that m
-- represents.
step_stands : (rel : Relation) (A Q : System) → IsSystem A → Quotient rel A Q →
    (s n : ℕ) (a : List ℕ) (m : ℕ) → Number rel A s n → Step Q n a m → Fellows rel A s n a m
step_stands rel A Q sys quotient s n a m number step =
    let e : Transition = record { source = n; label = a; target = m } in
    let stands : IsQuotientStep rel A e = ((quotient.transitions e).0 step).0 in
    (stands.0, stands.1, same_number_bisimilar rel A sys stands.0 s n stands.4 number, stands.3, stands.4, stands.5)

module _ (A Q : System) (sys : IsSystem A) (quotient : Quotient Strong A Q) where
  -- Let Q be the quotient of A modulo strong bisimilarity, and let the quotient state n represent the state s. Then n
  -- matches each step of s.
  strong_forth : (s n : ℕ) → Numbered Strong A s n → Matches Strong A Q (Numbered Strong A) s n
  strong_forth s n h = λ a t step.
      let on = step_numbered Strong A Q sys quotient s n a t h step in
      elim on.2 [ inl there ↦ (on.0, there, on.1) | inr drop ↦ absurd drop ]

  -- Let Q be the quotient of A modulo strong bisimilarity, and let the quotient state n represent the state s. Then s
  -- matches each step of n.
  pub strong_back : (s n : ℕ) → Numbered Strong A s n → Matches Strong Q A (Converse (Numbered Strong A)) n s
  strong_back s n h = λ a m step.
      let (x, y, (pairs, bisimulation, related), there, before, after) : Fellows Strong A s n a m =
      step_stands Strong A Q sys quotient s n a m h.1 step in
      let found = bisimulation.forth x s related a y there in (
        found.0,
        found.1,
        (
          reachable_on A s a found.0 h.0 found.1,
          number_carried Strong A sys y found.0 m (pairs, bisimulation, found.2) after,
        ),
      )

module _ (A Q : System) (sys : IsSystem A) (quotient : Quotient Branching A Q) where
  -- Let Q be the quotient of A modulo branching bisimilarity, and let the quotient state n represent the state s. Then
  -- n matches each step of s.
  branching_forth : (s n : ℕ) → Numbered Branching A s n → Matches Branching A Q (Numbered Branching A) s n
  branching_forth s n h = λ a t step.
      let on = step_numbered Branching A Q sys quotient s n a t h step in
      elim on.2 [
        | inl there ↦ inr (n, on.0, leads_here (Internal Q) n, there, h, on.1)
        | inr drop ↦ inl (drop.0, subst (Numbered Branching A t) (sym drop.1) on.1)
      ]

  -- `Goes` holds if a silent path leads from the state s to some state that the quotient state n represents, and a step
  -- with the label a leads from this state to some state that the quotient state m represents.
  abbrev Goes : ℕ → ℕ → List ℕ → ℕ → Type 0
  Goes s n a m =
      (u t : ℕ) × Silent A s u × Step A u a t × Numbered Branching A u n × Numbered Branching A t m

  -- Let n be the quotient state that represents the state s, and let the quotient have a step with the label a from n
  -- to the quotient state m. Then s matches this step: a silent path leads from s to some state that n represents, and
  -- a step with the label a leads from this state to some state that m represents.
  pub branching_goes : (s n : ℕ) (a : List ℕ) (m : ℕ) → Numbered Branching A s n → Step Q n a m → Goes s n a m
  branching_goes s n a m h step =
      let (x, y, (pairs, bisimulation, related), there, before, after) : Fellows Branching A s n a m =
      step_stands Branching A Q sys quotient s n a m h.1 step in
      elim (bisimulation.forth x s related a y there) [
        | inl rests ↦ (
            let own : Number Branching A s m =
            number_carried Branching A sys y s m (pairs, bisimulation, rests.1) after in
            let e : Transition = record { source = n; label = a; target = m } in
            absurd (((quotient.transitions e).0 step).1 (rests.0, number_once Branching A sys s n m h.1 own)))
        | inr goes ↦ (
            let reached = reachable_silent A s goes.0 h.0 goes.2 in (
              goes.0,
              goes.1,
              goes.2,
              goes.3,
              (reached, number_carried Branching A sys x goes.0 n (pairs, bisimulation, goes.4) before),
              (
                reachable_on A goes.0 a goes.1 reached goes.3,
                number_carried Branching A sys y goes.1 m (pairs, bisimulation, goes.5) after,
              ),
            ))
      ]

  branching_back : (s n : ℕ) → Numbered Branching A s n → Matches Branching Q A (Converse (Numbered Branching A)) n s
  branching_back s n h = λ a m step. inr (branching_goes s n a m h step)

  -- If a silent path of the quotient leads from the quotient state n to the quotient state m, then a silent path of A
  -- leads from each state that n represents to some state that m represents.
  pub silent_goes : (n m s : ℕ) → Silent Q n m → Numbered Branching A s n →
      (t : ℕ) × Silent A s t × Numbered Branching A t m
  silent_goes = leads_answered (Internal Q) (Internal A) (λ q s. Numbered Branching A s q) (λ n m s step h.
      let goes = branching_goes s n internal m h step in
      (goes.1, leads_on (Internal A) s goes.0 goes.1 goes.2 goes.3, goes.5))

module _ (rel : Relation) (A Q : System) (sys : IsSystem A) (quotient : Quotient rel A Q) where
  numbered_forth : (s n : ℕ) → Numbered rel A s n → Matches rel A Q (Numbered rel A) s n
  numbered_forth = elim rel as (λ r. Quotient r A Q → (s n : ℕ) → Numbered r A s n → Matches r A Q (Numbered r A) s n) [
    | Strong ↦ strong_forth A Q sys
    | Branching ↦ branching_forth A Q sys
  ] quotient

  numbered_back : (s n : ℕ) → Numbered rel A s n → Matches rel Q A (Converse (Numbered rel A)) n s
  numbered_back =
      elim rel as (λ r. Quotient r A Q → (s n : ℕ) → Numbered r A s n → Matches r Q A (Converse (Numbered r A)) n s) [
        | Strong ↦ strong_back A Q sys
        | Branching ↦ branching_back A Q sys
      ] quotient

  -- The relation between the reachable states and the quotient states that represent them is a bisimulation.
  pub numbered_bisimulation : IsBisimulation rel A Q (Numbered rel A)
  numbered_bisimulation = record {
    states = λ s n h. (reachable_below A sys s h.0, number_state rel A Q sys quotient s n h.1);
    forth = numbered_forth;
    back = numbered_back;
  }

  -- Each reachable state is bisimilar to the quotient state that represents it.
  pub numbered_bisimilar : (s n : ℕ) → Numbered rel A s n → Bisimilar rel A s Q n
  numbered_bisimilar = bisimilar_by rel A Q (Numbered rel A) (number_decided rel A sys) numbered_bisimulation

  -- The quotient is equivalent to the system.
  pub quotient_equivalent : Equivalent rel A Q
  quotient_equivalent =
      numbered_bisimilar A.first Q.first
      (first_reachable A, subst (Number rel A A.first) (sym quotient.first) (first_number rel A sys))
