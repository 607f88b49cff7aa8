-- The contract is proved by computation: the prover evaluates a function that returns a `Bool`. The lemmas of
-- `proofs/Testing` state what follows if such a function returns true.
use Rattle.std.proofs.Common.{refl}
use Rattle.tests_theory.specs.Examples.{only_a, only_b}
use Rattle.tests_theory.proofs.Testing.Matching.{are_apart}
use Rattle.tests_theory.proofs.bisimulations.different_labels.Goals as goal

pub returns : goal.returns
returns _ = are_apart only_a only_b 1 1 refl refl refl refl
