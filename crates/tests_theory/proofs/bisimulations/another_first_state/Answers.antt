-- Each clause of the contract is proved by computation: the prover evaluates a function that returns a `Bool`. The
-- lemmas of `proofs/Testing` state what follows if such a function returns true.
use Rattle.std.proofs.Common.{[], ◌∷◌, refl}
use Rattle.theory.specs.declared.relation.Relation.TheVariants.{Strong}
use Rattle.tests_theory.specs.Examples.{only_a, only_a_from_1}
use Rattle.tests_theory.proofs.Testing.Matching.{bisimilar_passes}
use Rattle.tests_theory.proofs.bisimulations.another_first_state.Goals as goal

pub returns : goal.returns
returns _ = bisimilar_passes Strong only_a_from_1 only_a ((1, 0) ∷ (0, 1) ∷ []) 1 0 refl refl
