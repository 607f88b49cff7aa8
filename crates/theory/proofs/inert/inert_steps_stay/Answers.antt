-- Each clause of the contract of `inert_steps_stay` is proved by a lemma about paths, which is applied to paths of
-- inert steps.
use Rattle.std.proofs.Common.{IsTrue}
use Rattle.theory.specs.Blocks.{Inert}
use Rattle.theory.proofs.Paths.{leads_keeps, silent_below}
use Rattle.theory.proofs.BranchingLaws.{inert_same, inert_silent}
use Rattle.theory.proofs.inert.inert_steps_stay.Goals as goal

pub returns-clause-block : goal.returns-clause-block
returns-clause-block c = inert_same

pub returns-clause-below : goal.returns-clause-below
returns-clause-below c = λ A blocks s t sys way. silent_below A sys s t (inert_silent A blocks s t way)

pub returns-clause-kept : goal.returns-clause-kept
returns-clause-kept c = λ A blocks has. leads_keeps (Inert A blocks) (λ x. IsTrue (has x))
