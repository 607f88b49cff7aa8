-- Each clause of the contract is proved by computation: the prover evaluates a function that returns a `Bool`. The
-- lemmas of `proofs/Testing` state what follows if such a function returns true.
use Rattle.std.proofs.Common.{[], ◌∷◌, refl}
use Rattle.theory.specs.declared.relation.Relation.TheVariants.{Strong, Branching}
use Rattle.tests_theory.specs.Examples.{silent_detour}
use Rattle.tests_theory.proofs.Testing.Repeating.{refines_by}
use Rattle.tests_theory.proofs.rounds.rounds_of_silent_detour.Goals as goal

pub returns-clause-rounds_branching : goal.returns-clause-rounds_branching
returns-clause-rounds_branching _ = refines_by Branching silent_detour _ _ ((0, 2) ∷ []) 1 refl refl

pub returns-clause-rounds_strong : goal.returns-clause-rounds_strong
returns-clause-rounds_strong _ = refines_by Strong silent_detour _ _ ((0, 1) ∷ []) 1 refl refl
