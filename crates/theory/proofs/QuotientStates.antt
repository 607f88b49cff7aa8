-- Two different states of the quotient are never bisimilar. The reason is that each bisimulation of the quotient with
-- itself gives rise to a bisimulation of the system with itself.
use Rattle.std.proofs.Common.{◌≡◌, ℕ, ◌<◌, ◌≤◌, subst, inl, inr}
use Rattle.theory.specs.System.{System, IsSystem, Internal}
use Rattle.theory.specs.Bisimulation.{Matches, IsBisimulation, Pairs, Bisimilar}
use Rattle.theory.specs.declared.relation.Relation.{Relation}
use Rattle.theory.specs.declared.relation.Relation.TheVariants.{Strong, Branching}
use Rattle.theory.specs.Blocks.{After, Turns}
use Rattle.theory.specs.Quotient.{Quotient}
use Rattle.theory.proofs.Paths.{leads_append, reachable_below}
use Rattle.theory.proofs.Bisimulations.{answers_weaker, bisimulation_flipped}
use Rattle.theory.proofs.Refinement.{blocks_after, related_share, final_share}
use Rattle.theory.proofs.Turning.{turns_found}
use Rattle.theory.proofs.Numbers.{number_once, number_carried, number_taken}
use Rattle.theory.proofs.QuotientLaws.{Numbered, step_numbered}
use Rattle.theory.proofs.QuotientSteps.{strong_back, branching_goes, silent_goes}

-- `Pulled` holds for the states x and y of A if the relation R relates the quotient state m that represents x to the
-- quotient state n that represents y.
abbrev Pulled : Relation → System → (ℕ → ℕ → Type 0) → ℕ → ℕ → Type 0
Pulled rel A R x y = (m n : ℕ) × Numbered rel A x m × Numbered rel A y n × R m n

strong_pulled : (A Q : System) → IsSystem A → Quotient Strong A Q → (R : ℕ → ℕ → Type 0) → IsBisimulation Strong Q Q R →
    (x y : ℕ) → Pulled Strong A R x y → Matches Strong A A (Pulled Strong A R) x y
strong_pulled A Q sys quotient R bisimulation x y (m, n, hx, hy, related) = λ a x' step.
    let on = step_numbered Strong A Q sys quotient x m a x' hx step in
    elim on.2 [
      | inl there ↦ (
          let found = bisimulation.forth m n related a on.0 there in
          let goes = strong_back A Q sys quotient y n hy a found.0 found.1 in
          (goes.0, goes.1, (on.0, found.0, on.1, goes.2, found.2)))
      | inr drop ↦ absurd drop
    ]

branching_pulled : (A Q : System) → IsSystem A → Quotient Branching A Q → (R : ℕ → ℕ → Type 0) →
    IsBisimulation Branching Q Q R →
    (x y : ℕ) → Pulled Branching A R x y → Matches Branching A A (Pulled Branching A R) x y
branching_pulled A Q sys quotient R bisimulation x y (m, n, hx, hy, related) = λ a x' step.
    let on = step_numbered Branching A Q sys quotient x m a x' hx step in
    elim on.2 [
      | inl there ↦ elim (bisimulation.forth m n related a on.0 there) [
        | inl rests ↦ inl (rests.0, (on.0, n, on.1, hy, rests.1))
        | inr found ↦ (
            let near = silent_goes A Q sys quotient n found.0 y found.2 hy in
            let goes = branching_goes A Q sys quotient near.0 found.0 a found.1 near.2 found.3 in
            inr (
              goes.0,
              goes.1,
              leads_append (Internal A) y near.0 goes.0 near.1 goes.2,
              goes.3,
              (m, found.0, hx, goes.4, found.4),
              (on.0, found.1, on.1, goes.5, found.5),
            ))
      ]
      | inr drop ↦ inl (drop.0, (on.0, n, on.1, hy, subst (λ k. R k n) drop.1 related))
    ]

-- If a bisimulation of a system with itself relates two states, these states are bisimilar. The bisimulation need not
-- be decidable.
related_bisimilar : (rel : Relation) (A : System) → IsSystem A → (R : ℕ → ℕ → Type 0) → IsBisimulation rel A A R →
    (s t : ℕ) → R s t → Bisimilar rel A s A t
related_bisimilar rel A sys R bisimulation s t related =
    let turns : (k : ℕ) × Turns rel A k × (k ≤ A.states) = turns_found rel A sys in
    let after : (blocks : ℕ → ℕ) × After rel A turns.0 blocks = blocks_after rel A sys turns.0 in
    (final_share rel A sys turns.0 after.0 turns.1 after.1 s t).0
    (related_share rel A sys R bisimulation turns.0 after.0 after.1 s t related)

module _ (rel : Relation) (A Q : System) (sys : IsSystem A) (quotient : Quotient rel A Q) where
  pulled_answers : (R : ℕ → ℕ → Type 0) → IsBisimulation rel Q Q R →
      (x y : ℕ) → Pulled rel A R x y → Matches rel A A (Pulled rel A R) x y
  pulled_answers = elim rel as (λ r. Quotient r A Q → (R : ℕ → ℕ → Type 0) → IsBisimulation r Q Q R →
      (x y : ℕ) → Pulled r A R x y → Matches r A A (Pulled r A R) x y) [
        | Strong ↦ strong_pulled A Q sys
        | Branching ↦ branching_pulled A Q sys
      ] quotient

  -- Let R be a bisimulation of the quotient with itself. Consider the relation that holds for two states of A if R
  -- relates the quotient states that represent them. This relation is a bisimulation of A with itself.
  pulled_bisimulation : (R : ℕ → ℕ → Type 0) → IsBisimulation rel Q Q R → IsBisimulation rel A A (Pulled rel A R)
  pulled_bisimulation R bisimulation = record {
    states = λ x y h. (reachable_below A sys x h.2.0, reachable_below A sys y h.3.0);
    forth = pulled_answers R bisimulation;
    back = λ x y h.
        answers_weaker rel A A (Pulled rel A (λ n m. R m n)) (λ y x. Pulled rel A R x y)
        (λ v u g. (g.1, g.0, g.3, g.2, g.4)) y x
        (pulled_answers (λ n m. R m n) (bisimulation_flipped rel Q Q R bisimulation) y x (h.1, h.0, h.3, h.2, h.4));
  }

  -- If two states of the quotient are bisimilar, they are equal.
  pub quotient_apart : (s t : ℕ) → Bisimilar rel Q s Q t → s ≡ t
  quotient_apart s t (pairs, bisimulation, related) =
      let below : (s < Q.states) × (t < Q.states) = bisimulation.states s t related in
      let x : (x : ℕ) × Numbered rel A x s =
      (let found = number_taken rel A sys Q.states quotient.states s below.0 in (found.0, (found.1, found.2))) in
      let y : (y : ℕ) × Numbered rel A y t =
      (let found = number_taken rel A sys Q.states quotient.states t below.1 in (found.0, (found.1, found.2))) in
      let alike : Bisimilar rel A x.0 A y.0 =
      related_bisimilar rel A sys (Pulled rel A (Pairs pairs)) (pulled_bisimulation (Pairs pairs) bisimulation)
      x.0 y.0 (s, t, x.1, y.1, related) in
      number_once rel A sys y.0 s t (number_carried rel A sys x.0 y.0 s alike x.1.1) y.1.1
