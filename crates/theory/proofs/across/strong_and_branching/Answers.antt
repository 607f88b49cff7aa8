-- Each clause of the contract of `strong_and_branching` is proved by a lemma, which is applied to the relation given by
-- a list of pairs.
use Rattle.theory.specs.Bisimulation.{Pairs}
use Rattle.theory.proofs.BothRelations.{strong_is_branching, branching_is_strong}
use Rattle.theory.proofs.across.strong_and_branching.Goals as goal

pub returns-clause-strong_is_branching : goal.returns-clause-strong_is_branching
returns-clause-strong_is_branching _ = λ A B pairs. strong_is_branching A B (Pairs pairs)

pub returns-clause-branching_is_strong : goal.returns-clause-branching_is_strong
returns-clause-branching_is_strong _ = λ A B pairs. branching_is_strong A B (Pairs pairs)
