-- Each clause of the contract is proved by computation: the prover evaluates a function that returns a `Bool`. The
-- lemmas of `proofs/Testing` state what follows if such a function returns true.
use Rattle.std.proofs.Common.{[], ◌∷◌, refl}
use Rattle.theory.specs.declared.relation.Relation.TheVariants.{Strong, Branching}
use Rattle.tests_theory.specs.Examples.{silent_cycle}
use Rattle.tests_theory.proofs.Testing.Matching.{bisimulation_passes, not_bisimilar}
use Rattle.tests_theory.proofs.Testing.Systems.{system_passes}
use Rattle.tests_theory.proofs.Testing.Splitting.{splits_by}
use Rattle.tests_theory.proofs.bisimulations.a_silent_cycle.Goals as goal

pub returns-clause-system : goal.returns-clause-system
returns-clause-system _ = system_passes silent_cycle refl

pub returns-clause-branching : goal.returns-clause-branching
returns-clause-branching _ =
    bisimulation_passes Branching silent_cycle silent_cycle ((0, 0) ∷ (0, 1) ∷ (1, 0) ∷ (1, 1) ∷ []) refl

pub returns-clause-strongly : goal.returns-clause-strongly
returns-clause-strongly _ = not_bisimilar Strong silent_cycle silent_cycle 1 0 1 refl

pub returns-clause-split : goal.returns-clause-split
returns-clause-split _ = splits_by Branching silent_cycle _ _ _ refl

pub returns-clause-strong_split : goal.returns-clause-strong_split
returns-clause-strong_split _ = splits_by Strong silent_cycle _ _ _ refl
