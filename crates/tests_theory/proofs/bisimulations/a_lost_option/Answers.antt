-- Each clause of the contract is proved by computation: the prover evaluates a function that returns a `Bool`. The
-- lemmas of `proofs/Testing` state what follows if such a function returns true.
use Rattle.std.proofs.Common.{[], ◌∷◌, refl}
use Rattle.theory.specs.declared.relation.Relation.TheVariants.{Branching}
use Rattle.tests_theory.specs.Examples.{option_behind, option_before}
use Rattle.tests_theory.proofs.Testing.Matching.{bisimilar_passes, are_apart}
use Rattle.tests_theory.proofs.bisimulations.a_lost_option.Goals as goal

pub returns-clause-apart : goal.returns-clause-apart
returns-clause-apart _ = are_apart option_behind option_before 1 2 refl refl refl refl

pub returns-clause-behind : goal.returns-clause-behind
returns-clause-behind _ = bisimilar_passes Branching option_behind option_before ((1, 1) ∷ (2, 2) ∷ []) 1 1 refl refl
