-- Each clause of the contract is proved by computation: the prover evaluates a function that returns a `Bool`. The
-- lemmas of `proofs/Testing` state what follows if such a function returns true.
use Rattle.std.proofs.Common.{[], ◌∷◌, get_or, slice_index, refl}
use Rattle.theory.specs.System.{internal}
use Rattle.theory.specs.declared.relation.Relation.TheVariants.{Strong, Branching}
use Rattle.tests_theory.specs.Examples.{loop_and_rest}
use Rattle.tests_theory.proofs.Testing.Splitting.{split_passes, splits_by}
use Rattle.tests_theory.proofs.Testing.Repeating.{refines_by}
use Rattle.tests_theory.proofs.rounds.old_blocks_count.Goals as goal

pub returns-clause-strongly : goal.returns-clause-strongly
returns-clause-strongly _ = split_passes Strong loop_and_rest (λ _. 0) (slice_index (0 ∷ 1 ∷ []))
    (λ s. get_or (((internal, 0) ∷ []) ∷ [] ∷ []) s []) refl

pub returns-clause-branching : goal.returns-clause-branching
returns-clause-branching _ = splits_by Branching loop_and_rest _ _ _ refl

pub returns-clause-rounds : goal.returns-clause-rounds
returns-clause-rounds _ = refines_by Branching loop_and_rest _ _ [] 0 refl refl
