-- Each clause of the contract of `inert_steps_pass_signatures_back` is proved by a lemma.
use Rattle.theory.specs.Blocks.{Inert}
use Rattle.theory.proofs.Paths.{leads_step}
use Rattle.theory.proofs.BranchingLaws.{signature_before}
use Rattle.theory.proofs.InertSteps.{signature_own, signature_only, signature_mutual}
use Rattle.theory.proofs.inert.inert_steps_pass_signatures_back.Goals as goal

pub returns-clause-own : goal.returns-clause-own
returns-clause-own c = signature_own

pub returns-clause-step : goal.returns-clause-step
returns-clause-step c =
    λ A blocks s t a b inert. signature_before A blocks s t (leads_step (Inert A blocks) s t inert) a b

pub returns-clause-path : goal.returns-clause-path
returns-clause-path c = λ A blocks s t a b way. signature_before A blocks s t way a b

pub returns-clause-only : goal.returns-clause-only
returns-clause-only c = signature_only

pub returns-clause-same : goal.returns-clause-same
returns-clause-same c = signature_mutual
