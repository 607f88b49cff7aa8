-- For branching bisimilarity, an inert step is an internal step between bisimilar states. For strong bisimilarity, no
-- step is inert. Let s and t be bisimilar states, and let s have no inert steps. Suppose that a step of t is not inert.
-- Then s has a step with the same label, and the targets of the two steps are bisimilar.
use Rattle.std.proofs.Common.{◌↔◌, ℕ, List, [], ◌∷◌, refl, sym, subst}
use Rattle.theory.specs.System.{System, IsSystem, Step, internal}
use Rattle.theory.specs.Bisimulation.{Bisimilar}
use Rattle.theory.specs.declared.relation.Relation.{Relation}
use Rattle.theory.specs.declared.relation.Relation.TheVariants.{Strong, Branching}
use Rattle.theory.specs.Blocks.{Signature, Stable, Share}
use Rattle.theory.specs.Quotient.{ShowsNothing}
use Rattle.theory.proofs.Paths.{step_below}
use Rattle.theory.proofs.Refinement.{blocks_after, after_stable, final_share}
use Rattle.theory.proofs.Turning.{turns_found}

-- `Makes` holds if the state s has a step with the label a to some state that is bisimilar to the state t.
abbrev pub Makes : Relation → System → ℕ → List ℕ → ℕ → Type 0
Makes rel A s a t = (u : ℕ) × Step A s a u × Bisimilar rel A t A u

module _ (A : System) (sys : IsSystem A) (blocks : ℕ → ℕ) where
  strong_shown : ((s t : ℕ) → Share A blocks s t ↔ Bisimilar Strong A s A t) → Stable Strong A blocks →
      (s t : ℕ) (a : List ℕ) (u : ℕ) → Bisimilar Strong A s A t → Step A t a u → Makes Strong A s a u
  strong_shown is stable s t a u same step =
      let share : Share A blocks s t = (is s t).1 same in
      let found : Signature Strong A blocks s a (blocks u) =
      (stable s t share.0 share.1 share.2 a (blocks u)).1 (u, step, refl) in
      let low = (step_below A sys t a u step).1 in
      let ends = (step_below A sys s a found.0 found.1).1 in
      (found.0, found.1, (is u found.0).0 (low, ends, sym found.2))

  branching_shown : ((s t : ℕ) → Share A blocks s t ↔ Bisimilar Branching A s A t) → Stable Branching A blocks →
      (s t : ℕ) (a : List ℕ) (u : ℕ) → Bisimilar Branching A s A t →
      ((b : List ℕ) (v : ℕ) → Step A s b v → ¬ ShowsNothing Branching A s b v) →
      Step A t a u → ¬ ShowsNothing Branching A t a u → Makes Branching A s a u
  branching_shown is stable s t a u same none step leaves =
      let share : Share A blocks s t = (is s t).1 same in
      let low = (step_below A sys t a u step).1 in
      let can : Signature Branching A blocks t a (blocks u) =
      (t, u, ([], refl), step, refl, λ inert. leaves (inert.0, (is t u).0 (share.1, low, sym inert.1))) in
      go ((stable s t share.0 share.1 share.2 a (blocks u)).1 can)
    where
      go : Signature Branching A blocks s a (blocks u) → Makes Branching A s a u
      go (x, v, ([], here), there, at, shows) =
          let own : Step A s a v = subst (λ y. Step A y a v) (sym here) there in
          let low = (step_below A sys t a u step).1 in
          (v, own, (is u v).0 (low, (step_below A sys s a v own).1, sym at))
      go (x, v, (w ∷ ws, way), there, at, shows) =
          let first = step_below A sys s internal w way.0.0 in
          absurd (none internal w way.0.0 (refl, (is s w).0 (first.0, first.1, sym way.0.1)))

-- Let s and t be bisimilar states, and let s have no inert steps. Suppose that a step of t with the label a leads to
-- the state u, and that this step is not inert. Then some step of s with the label a leads to a state that is bisimilar
-- to u. The proof uses a partition whose blocks are the classes of bisimilar states, and in which any two states of a
-- block have equal signatures.
pub all_made : (rel : Relation) (A : System) (s t : ℕ) (a : List ℕ) (u : ℕ) → IsSystem A → Bisimilar rel A s A t →
    ((b : List ℕ) (v : ℕ) → Step A s b v → ¬ ShowsNothing rel A s b v) → Step A t a u → ¬ ShowsNothing rel A t a u →
    Makes rel A s a u
all_made rel A s t a u sys same none step leaves =
    let turns = turns_found rel A sys in
    let after = blocks_after rel A sys turns.0 in
    go rel after.0 (final_share rel A sys turns.0 after.0 turns.1 after.1) (after_stable rel A sys turns.0 after.0
    turns.1.last after.1) same none leaves
  where
    go : (r : Relation) (blocks : ℕ → ℕ) → ((x y : ℕ) → Share A blocks x y ↔ Bisimilar r A x A y) → Stable r A blocks →
        Bisimilar r A s A t →
        ((b : List ℕ) (v : ℕ) → Step A s b v → ¬ ShowsNothing r A s b v) → ¬ ShowsNothing r A t a u → Makes r A s a u
    go Strong blocks is stable same none leaves = strong_shown A sys blocks is stable s t a u same step
    go Branching blocks is stable same none leaves =
        branching_shown A sys blocks is stable s t a u same none step leaves
