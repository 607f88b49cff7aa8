-- Each clause of the contract is proved by computation: the prover evaluates a function that returns a `Bool`. The
-- lemmas of `proofs/Testing` state what follows if such a function returns true.
use Rattle.std.proofs.Common.{[], ◌∷◌, refl}
use Rattle.theory.specs.declared.relation.Relation.TheVariants.{Strong}
use Rattle.tests_theory.specs.Examples.{choice_after, choice_before}
use Rattle.tests_theory.proofs.Testing.Matching.{bisimulation_passes, not_bisimilar, are_apart}
use Rattle.tests_theory.proofs.bisimulations.moment_of_choice.Goals as goal

pub returns-clause-apart : goal.returns-clause-apart
returns-clause-apart _ = are_apart choice_after choice_before 2 2 refl refl refl refl

pub returns-clause-after_b : goal.returns-clause-after_b
returns-clause-after_b _ = not_bisimilar Strong choice_after choice_before 1 1 1 refl

pub returns-clause-ends : goal.returns-clause-ends
returns-clause-ends _ = bisimulation_passes Strong choice_after choice_before ((2, 3) ∷ (3, 3) ∷ (3, 4) ∷ []) refl
