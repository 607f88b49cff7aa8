-- All clauses of the contract are proved by one computation: the prover evaluates a function that returns a `Bool`. The
-- lemmas of `proofs/Testing` state what follows if such a function returns true.
use Rattle.std.proofs.Common.{[], ◌∷◌, refl}
use Rattle.theory.specs.declared.relation.Relation.TheVariants.{Strong}
use Rattle.tests_theory.specs.Examples.{first_in_cycle, loop_of_a, first_is_two, a_then_b, two_equal_targets, only_a}
use Rattle.tests_theory.specs.Examples.{written_twice, unreachable_pair, lone_state, chain_of_three}
use Rattle.tests_theory.proofs.Testing.Census.{are_quotients}
use Rattle.tests_theory.proofs.Testing.Told.{first_in_cycle_strong, first_is_two_strong, two_equal_targets_strong}
use Rattle.tests_theory.proofs.Testing.Told.{written_twice_strong, unreachable_pair_strong, chain_of_three_strong}
use Rattle.tests_theory.proofs.quotients.strong_quotients.Goals as goal

pub returns : goal.returns
returns _ =
    are_quotients Strong ((first_in_cycle, loop_of_a, first_in_cycle_strong)
    ∷ (first_is_two, a_then_b, first_is_two_strong)
    ∷ (two_equal_targets, only_a, two_equal_targets_strong) ∷ (written_twice, only_a, written_twice_strong)
    ∷ (unreachable_pair, lone_state, unreachable_pair_strong) ∷ (chain_of_three, chain_of_three, chain_of_three_strong)
    ∷ [])
    refl
