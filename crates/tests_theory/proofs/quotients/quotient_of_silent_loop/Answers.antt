-- Each clause of the contract is proved by computation: the prover evaluates a function that returns a `Bool`. The
-- lemmas of `proofs/Testing` state what follows if such a function returns true.
use Rattle.std.proofs.Common.{refl}
use Rattle.theory.specs.declared.relation.Relation.TheVariants.{Strong, Branching}
use Rattle.tests_theory.specs.Examples.{silent_loop, lone_state}
use Rattle.tests_theory.proofs.Testing.Census.{is_quotient}
use Rattle.tests_theory.proofs.Testing.Told.{silent_loop_branching, silent_loop_strong}
use Rattle.tests_theory.proofs.quotients.quotient_of_silent_loop.Goals as goal

pub returns-clause-quotient_branching : goal.returns-clause-quotient_branching
returns-clause-quotient_branching _ = is_quotient Branching silent_loop lone_state silent_loop_branching refl refl

pub returns-clause-quotient_strong : goal.returns-clause-quotient_strong
returns-clause-quotient_strong _ = is_quotient Strong silent_loop silent_loop silent_loop_strong refl refl
