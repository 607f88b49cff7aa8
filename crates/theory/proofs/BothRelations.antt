-- Every strong bisimulation is a branching bisimulation, and the converse holds for systems without internal steps.
use Rattle.std.proofs.Common.{◌≡◌, ℕ, List, [], ◌∷◌, refl, sym, subst, inl, inr}
use Rattle.theory.specs.System.{System, Step, Internal, Along, Silent}
use Rattle.theory.specs.Bisimulation.{Matches, IsBisimulation}
use Rattle.theory.specs.declared.relation.Relation.TheVariants.{Strong, Branching}

answers_strongly :
    (A B : System) (R : ℕ → ℕ → Type 0) (s t : ℕ) → R s t → Matches Strong A B R s t → Matches Branching A B R s t
answers_strongly A B R s t r answer = λ x s' step.
    let found = answer x s' step in
    inr (t, found.0, ([], refl), found.1, r, found.2)

-- Every strong bisimulation is a branching bisimulation.
pub strong_is_branching : (A B : System) (R : ℕ → ℕ → Type 0) → IsBisimulation Strong A B R →
    IsBisimulation Branching A B R
strong_is_branching A B R meets = record {
  states = meets.states;
  forth = λ s t r. answers_strongly A B R s t r (meets.forth s t r);
  back = λ s t r. answers_strongly B A (λ y x. R x y) t s r (meets.back s t r);
}

-- A silent path is a path of internal steps. If a system has no internal step, every silent path is empty. So the path
-- ends in the state in which it begins.
stays : (B : System) → ((s t : ℕ) → ¬ Internal B s t) → (s t : ℕ) → Silent B s t → s ≡ t
stays B none s t path = go path.0 s path.1
  where
    go : (us : List ℕ) (v : ℕ) → Along (Internal B) v us t → v ≡ t
    go [] v h = h
    go (u ∷ us) v h = absurd (none v u h.0)

answers_visibly :
    (A B : System) (R : ℕ → ℕ → Type 0) → ((s t : ℕ) → ¬ Internal A s t) → ((s t : ℕ) → ¬ Internal B s t) →
    (s t : ℕ) → Matches Branching A B R s t → Matches Strong A B R s t
answers_visibly A B R none none' s t answer = λ x s' step. elim (answer x s' step) [
  | inl rests ↦ absurd (none s s' (subst (λ z. Step A s z s') rests.0 step))
  | inr moves ↦ (
      let same = stays B none' t moves.0 moves.2 in
      (moves.1, subst (λ z. Step B z x moves.1) (sym same) moves.3, moves.5))
]

-- If two systems have no internal steps, every branching bisimulation between them is a strong bisimulation.
pub branching_is_strong :
    (A B : System) (R : ℕ → ℕ → Type 0) → ((s t : ℕ) → ¬ Internal A s t) → ((s t : ℕ) → ¬ Internal B s t) →
    IsBisimulation Branching A B R → IsBisimulation Strong A B R
branching_is_strong A B R none none' meets = record {
  states = meets.states;
  forth = λ s t r. answers_visibly A B R none none' s t (meets.forth s t r);
  back = λ s t r. answers_visibly B A (λ y x. R x y) none' none t s (meets.back s t r);
}
