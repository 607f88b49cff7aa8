-- Each clause of the contract is proved by computation: the prover evaluates a function that returns a `Bool`. The
-- lemmas of `proofs/Testing` state what follows if such a function returns true.
use Rattle.std.proofs.Common.{[], ◌∷◌, refl}
use Rattle.theory.specs.declared.relation.Relation.TheVariants.{Branching}
use Rattle.tests_theory.specs.Examples.{silent_choice}
use Rattle.tests_theory.proofs.Testing.Matching.{not_bisimilar}
use Rattle.tests_theory.proofs.Testing.Systems.{system_passes}
use Rattle.tests_theory.proofs.Testing.Repeating.{refines_by}
use Rattle.tests_theory.proofs.bisimulations.a_silent_choice.Goals as goal

pub returns-clause-system : goal.returns-clause-system
returns-clause-system _ = system_passes silent_choice refl

pub returns-clause-apart : goal.returns-clause-apart
returns-clause-apart _ = not_bisimilar Branching silent_choice silent_choice 1 0 1 refl

pub returns-clause-rounds : goal.returns-clause-rounds
returns-clause-rounds _ = refines_by Branching silent_choice _ _ ((0, 1) ∷ []) 1 refl refl
