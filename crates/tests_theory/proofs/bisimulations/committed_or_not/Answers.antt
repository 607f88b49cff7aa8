-- Each clause of the contract is proved by computation: the prover evaluates a function that returns a `Bool`. The
-- lemmas of `proofs/Testing` state what follows if such a function returns true.
use Rattle.std.proofs.Common.{[], ◌∷◌, refl}
use Rattle.theory.specs.declared.relation.Relation.TheVariants.{Branching}
use Rattle.tests_theory.specs.Examples.{not_committed, committed}
use Rattle.tests_theory.proofs.Testing.Matching.{bisimilar_passes, are_apart}
use Rattle.tests_theory.proofs.bisimulations.committed_or_not.Goals as goal

pub returns-clause-apart : goal.returns-clause-apart
returns-clause-apart _ = are_apart not_committed committed 2 2 refl refl refl refl

pub returns-clause-after_a : goal.returns-clause-after_a
returns-clause-after_a _ =
    bisimilar_passes Branching not_committed committed ((1, 1) ∷ (2, 2) ∷ (3, 3) ∷ []) 1 1 refl refl
