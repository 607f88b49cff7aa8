-- Each clause of the contract is proved by computation: the prover evaluates a function that returns a `Bool`. The
-- lemmas of `proofs/Testing` state what follows if such a function returns true.
use Rattle.std.proofs.Common.{[], ◌∷◌, refl}
use Rattle.theory.specs.declared.relation.Relation.TheVariants.{Strong}
use Rattle.tests_theory.specs.Examples.{unreachable_twin}
use Rattle.tests_theory.proofs.Testing.Matching.{bisimulation_passes, bisimilar_passes, not_bisimilar}
use Rattle.tests_theory.proofs.Testing.Systems.{system_passes}
use Rattle.tests_theory.proofs.Testing.Splitting.{splits_by}
use Rattle.tests_theory.proofs.bisimulations.an_unreachable_twin.Goals as goal

pub returns-clause-system : goal.returns-clause-system
returns-clause-system _ = system_passes unreachable_twin refl

pub returns-clause-strong : goal.returns-clause-strong
returns-clause-strong _ = bisimulation_passes Strong unreachable_twin unreachable_twin ((0, 0) ∷ (1, 1) ∷ (1, 3)
    ∷ (2, 2) ∷ (3, 1) ∷ (3, 3) ∷ []) refl

pub returns-clause-twins : goal.returns-clause-twins
returns-clause-twins _ = bisimilar_passes Strong unreachable_twin unreachable_twin ((0, 0) ∷ (1, 1) ∷ (1, 3) ∷ (2, 2)
    ∷ (3, 1) ∷ (3, 3) ∷ []) 1 3 refl refl

pub returns-clause-apart : goal.returns-clause-apart
returns-clause-apart _ = not_bisimilar Strong unreachable_twin unreachable_twin 1 0 2 refl

pub returns-clause-not_first : goal.returns-clause-not_first
returns-clause-not_first _ = not_bisimilar Strong unreachable_twin unreachable_twin 1 0 1 refl

pub returns-clause-split : goal.returns-clause-split
returns-clause-split _ = splits_by Strong unreachable_twin _ _ _ refl
