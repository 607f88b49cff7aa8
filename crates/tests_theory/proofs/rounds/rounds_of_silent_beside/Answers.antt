-- Each clause of the contract is proved by computation: the prover evaluates a function that returns a `Bool`. The
-- lemmas of `proofs/Testing` state what follows if such a function returns true.
use Rattle.std.proofs.Common.{[], ◌∷◌, refl}
use Rattle.theory.specs.declared.relation.Relation.TheVariants.{Branching}
use Rattle.tests_theory.specs.Examples.{silent_beside}
use Rattle.tests_theory.proofs.Testing.Repeating.{refines_by}
use Rattle.tests_theory.proofs.rounds.rounds_of_silent_beside.Goals as goal

pub returns-clause-rounds : goal.returns-clause-rounds
returns-clause-rounds _ = refines_by Branching silent_beside _ _ ((0, 1) ∷ []) 1 refl refl
