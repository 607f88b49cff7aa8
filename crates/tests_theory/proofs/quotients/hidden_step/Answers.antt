-- Each clause of the contract is proved by computation: the prover evaluates a function that returns a `Bool`. The
-- lemmas of `proofs/Testing` state what follows if such a function returns true.
use Rattle.std.proofs.Common.{[], ◌∷◌, refl}
use Rattle.theory.specs.System.{Hide}
use Rattle.theory.specs.declared.relation.Relation.TheVariants.{Strong, Branching}
use Rattle.tests_theory.specs.Examples.{a, a_then_b, only_b, hidden_middle_strong_quotient}
use Rattle.tests_theory.proofs.Testing.Census.{is_quotient}
use Rattle.tests_theory.proofs.Testing.Told.{hidden_middle_strong, hidden_middle_branching}
use Rattle.tests_theory.proofs.quotients.hidden_step.Goals as goal

pub returns-clause-goes : goal.returns-clause-goes
returns-clause-goes _ = is_quotient Branching (Hide (a ∷ []) a_then_b) only_b hidden_middle_branching refl refl

pub returns-clause-stays : goal.returns-clause-stays
returns-clause-stays _ =
    is_quotient Strong (Hide (a ∷ []) a_then_b) hidden_middle_strong_quotient hidden_middle_strong refl refl
