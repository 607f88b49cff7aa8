-- Each clause of the contract is proved by computation: the prover evaluates a function that returns a `Bool`. The
-- lemmas of `proofs/Testing` state what follows if such a function returns true.
use Rattle.std.proofs.Common.{[], ◌∷◌, refl}
use Rattle.theory.specs.declared.relation.Relation.TheVariants.{Strong}
use Rattle.tests_theory.specs.Examples.{chain_of_three}
use Rattle.tests_theory.proofs.Testing.Repeating.{refines_by}
use Rattle.tests_theory.proofs.rounds.rounds_of_chain_of_three.Goals as goal

pub returns-clause-rounds : goal.returns-clause-rounds
returns-clause-rounds _ = refines_by Strong chain_of_three _ _ ((0, 3) ∷ (0, 2) ∷ (0, 1) ∷ []) 3 refl refl
