-- Each clause of the contract is proved by computation: the prover evaluates a function that returns a `Bool`. The
-- lemmas of `proofs/Testing` state what follows if such a function returns true.
use Rattle.std.proofs.Common.{[], ◌∷◌, refl}
use Rattle.theory.specs.System.{Hide}
use Rattle.theory.specs.declared.relation.Relation.TheVariants.{Strong, Branching}
use Rattle.tests_theory.specs.Examples.{a, a_then_b, only_b}
use Rattle.tests_theory.proofs.Testing.Matching.{bisimilar_passes, not_bisimilar, are_apart}
use Rattle.tests_theory.proofs.bisimulations.hidden_on_both_sides.Goals as goal

pub returns-clause-hidden : goal.returns-clause-hidden
returns-clause-hidden _ = bisimilar_passes Branching (Hide (a ∷ []) a_then_b) (Hide (a ∷ []) only_b)
    ((0, 0) ∷ (1, 0) ∷ (2, 1) ∷ []) 0 0 refl refl

pub returns-clause-strongly : goal.returns-clause-strongly
returns-clause-strongly _ = not_bisimilar Strong (Hide (a ∷ []) a_then_b) (Hide (a ∷ []) only_b) 2 0 0 refl

pub returns-clause-shown : goal.returns-clause-shown
returns-clause-shown _ = are_apart a_then_b only_b 1 1 refl refl refl refl
