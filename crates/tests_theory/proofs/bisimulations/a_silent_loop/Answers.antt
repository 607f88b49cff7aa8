-- Each clause of the contract is proved by computation: the prover evaluates a function that returns a `Bool`. The
-- lemmas of `proofs/Testing` state what follows if such a function returns true.
use Rattle.std.proofs.Common.{[], ◌∷◌, refl}
use Rattle.theory.specs.declared.relation.Relation.TheVariants.{Strong, Branching}
use Rattle.tests_theory.specs.Examples.{silent_loop, lone_state}
use Rattle.tests_theory.proofs.Testing.Matching.{bisimilar_passes, not_bisimilar}
use Rattle.tests_theory.proofs.bisimulations.a_silent_loop.Goals as goal

pub returns-clause-branching : goal.returns-clause-branching
returns-clause-branching _ = bisimilar_passes Branching silent_loop lone_state ((0, 0) ∷ []) 0 0 refl refl

pub returns-clause-strongly : goal.returns-clause-strongly
returns-clause-strongly _ = not_bisimilar Strong silent_loop lone_state 1 0 0 refl
