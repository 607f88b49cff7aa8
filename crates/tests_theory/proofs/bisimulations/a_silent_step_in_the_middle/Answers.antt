-- Each clause of the contract is proved by computation: the prover evaluates a function that returns a `Bool`. The
-- lemmas of `proofs/Testing` state what follows if such a function returns true.
use Rattle.std.proofs.Common.{[], ◌∷◌, refl}
use Rattle.theory.specs.declared.relation.Relation.TheVariants.{Strong, Branching}
use Rattle.tests_theory.specs.Examples.{silent_middle, a_then_b}
use Rattle.tests_theory.proofs.Testing.Matching.{bisimulation_passes, bisimilar_passes, not_bisimilar}
use Rattle.tests_theory.proofs.Testing.Systems.{system_passes}
use Rattle.tests_theory.proofs.bisimulations.a_silent_step_in_the_middle.Goals as goal

pub returns-clause-systems : goal.returns-clause-systems
returns-clause-systems _ = (system_passes silent_middle refl, system_passes a_then_b refl)

pub returns-clause-branching : goal.returns-clause-branching
returns-clause-branching _ =
    bisimulation_passes Branching silent_middle a_then_b ((0, 0) ∷ (1, 1) ∷ (2, 1) ∷ (3, 2) ∷ []) refl

pub returns-clause-equivalent : goal.returns-clause-equivalent
returns-clause-equivalent _ =
    bisimilar_passes Branching silent_middle a_then_b ((0, 0) ∷ (1, 1) ∷ (2, 1) ∷ (3, 2) ∷ []) 0 0 refl refl

pub returns-clause-back : goal.returns-clause-back
returns-clause-back _ =
    bisimilar_passes Branching a_then_b silent_middle ((0, 0) ∷ (1, 1) ∷ (1, 2) ∷ (2, 3) ∷ []) 0 0 refl refl

pub returns-clause-strongly : goal.returns-clause-strongly
returns-clause-strongly _ = not_bisimilar Strong silent_middle a_then_b 2 0 0 refl
