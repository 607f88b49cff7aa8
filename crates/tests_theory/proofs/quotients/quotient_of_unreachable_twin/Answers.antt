-- Each clause of the contract is proved by computation: the prover evaluates a function that returns a `Bool`. The
-- lemmas of `proofs/Testing` state what follows if such a function returns true.
use Rattle.std.proofs.Common.{refl}
use Rattle.theory.specs.declared.relation.Relation.TheVariants.{Strong}
use Rattle.tests_theory.specs.Examples.{unreachable_twin, a_then_b}
use Rattle.tests_theory.proofs.Testing.Census.{is_quotient, is_number, is_no_leader, is_unreachable}
use Rattle.tests_theory.proofs.Testing.Told.{unreachable_twin_strong}
use Rattle.tests_theory.proofs.quotients.quotient_of_unreachable_twin.Goals as goal

pub returns-clause-quotient : goal.returns-clause-quotient
returns-clause-quotient _ = is_quotient Strong unreachable_twin a_then_b unreachable_twin_strong refl refl

pub returns-clause-number_of_0 : goal.returns-clause-number_of_0
returns-clause-number_of_0 _ = is_number Strong unreachable_twin 0 0 unreachable_twin_strong refl refl

pub returns-clause-number_of_2 : goal.returns-clause-number_of_2
returns-clause-number_of_2 _ = is_number Strong unreachable_twin 2 1 unreachable_twin_strong refl refl

pub returns-clause-number_of_3 : goal.returns-clause-number_of_3
returns-clause-number_of_3 _ = is_number Strong unreachable_twin 3 2 unreachable_twin_strong refl refl

pub returns-clause-unreachable : goal.returns-clause-unreachable
returns-clause-unreachable _ = is_unreachable unreachable_twin 1 refl

pub returns-clause-no_leader : goal.returns-clause-no_leader
returns-clause-no_leader _ = is_no_leader Strong unreachable_twin 1 unreachable_twin_strong refl refl
