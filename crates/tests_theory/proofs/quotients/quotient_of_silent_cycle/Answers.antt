-- Each clause of the contract is proved by computation: the prover evaluates a function that returns a `Bool`. The
-- lemmas of `proofs/Testing` state what follows if such a function returns true.
use Rattle.std.proofs.Common.{refl}
use Rattle.theory.specs.declared.relation.Relation.TheVariants.{Strong, Branching}
use Rattle.tests_theory.specs.Examples.{silent_cycle}
use Rattle.tests_theory.proofs.Testing.Census.{quotient_is}
use Rattle.tests_theory.proofs.Testing.Told.{silent_cycle_branching, silent_cycle_strong}
use Rattle.tests_theory.proofs.quotients.quotient_of_silent_cycle.Goals as goal

pub returns-clause-branching : goal.returns-clause-branching
returns-clause-branching _ = quotient_is Branching silent_cycle _ _ silent_cycle_branching refl refl refl

pub returns-clause-strong : goal.returns-clause-strong
returns-clause-strong _ = quotient_is Strong silent_cycle _ _ silent_cycle_strong refl refl refl
