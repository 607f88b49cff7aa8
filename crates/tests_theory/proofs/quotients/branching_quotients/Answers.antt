-- All clauses of the contract are proved by one computation: the prover evaluates a function that returns a `Bool`. The
-- lemmas of `proofs/Testing` state what follows if such a function returns true.
use Rattle.std.proofs.Common.{[], ◌∷◌, refl}
use Rattle.theory.specs.declared.relation.Relation.TheVariants.{Branching}
use Rattle.tests_theory.specs.Examples.{silent_choice, silent_chain, only_a, silent_beside, option_behind}
use Rattle.tests_theory.specs.Examples.{silent_middle, a_then_b}
use Rattle.tests_theory.proofs.Testing.Census.{are_quotients}
use Rattle.tests_theory.proofs.Testing.Told.{silent_choice_branching, silent_chain_branching, silent_beside_branching}
use Rattle.tests_theory.proofs.Testing.Told.{silent_middle_branching}
use Rattle.tests_theory.proofs.quotients.branching_quotients.Goals as goal

pub returns : goal.returns
returns _ =
    are_quotients Branching ((silent_choice, silent_choice, silent_choice_branching)
    ∷ (silent_chain, only_a, silent_chain_branching)
    ∷ (silent_beside, option_behind, silent_beside_branching) ∷ (silent_middle, a_then_b, silent_middle_branching) ∷ [])
    refl
