-- If A and B have the same steps, and C and D have the same steps, then the union of A and C has the same steps as the
-- union of B and D.
use Rattle.std.proofs.Common.{◌+◌, ℕ, List, Contains, sym, ap, subst, ◌∙◌, inl, inr}
use Rattle.theory.specs.System.{System, Step}
use Rattle.theory.specs.Alike.{SameSteps}
use Rattle.theory.specs.Union.{shifted, union_of}
use Rattle.theory.proofs.AlikeSystems.{same_steps_sym}
use Rattle.theory.proofs.UnionSteps.{union_step, step_left, step_right}

module _ (A B C D : System) where
  step_alike : SameSteps A B → SameSteps C D → (s : ℕ) (a : List ℕ) (t : ℕ) → Step (union_of A C) s a t →
      Step (union_of B D) s a t
  step_alike one other s a t step = elim (union_step A C s a t step) [
    | inl c ↦ step_left B D s a t ((one.steps s a t).0 c)
    | inr (e, c, same) ↦
        let V : System = union_of B D in
        let there : Contains V.transitions (shifted B.states e) =
        step_right B D e.source e.label e.target ((other.steps e.source e.label e.target).0 c) in
        subst (Contains V.transitions) same (subst (λ n. Contains V.transitions (shifted n e)) (sym one.states) there)
  ]

pub unions_alike : (A B C D : System) → SameSteps A B → SameSteps C D → SameSteps (union_of A C) (union_of B D)
unions_alike A B C D one other = record {
  first = one.first;
  states = ap (λ n. n + C.states) one.states ∙ ap (λ n. B.states + n) other.states;
  steps = λ s a t. (
    step_alike A B C D one other s a t,
    step_alike B A D C (same_steps_sym A B one) (same_steps_sym C D other) s a t,
  );
}
