-- Each clause of the contract is proved by computation: the prover evaluates a function that returns a `Bool`. The
-- lemmas of `proofs/Testing` state what follows if such a function returns true.
use Rattle.std.proofs.Common.{[], ◌∷◌, refl}
use Rattle.theory.specs.declared.relation.Relation.TheVariants.{Strong, Branching}
use Rattle.tests_theory.specs.Examples.{a_then_b, a_then_b_reordered}
use Rattle.tests_theory.proofs.Testing.Matching.{bisimilar_passes}
use Rattle.tests_theory.proofs.bisimulations.reordered_lines.Goals as goal

pub returns-clause-branching : goal.returns-clause-branching
returns-clause-branching _ =
    bisimilar_passes Branching a_then_b a_then_b_reordered ((0, 0) ∷ (1, 1) ∷ (2, 2) ∷ []) 0 0 refl refl

pub returns-clause-strongly : goal.returns-clause-strongly
returns-clause-strongly _ =
    bisimilar_passes Strong a_then_b a_then_b_reordered ((0, 0) ∷ (1, 1) ∷ (2, 2) ∷ []) 0 0 refl refl
