-- Each clause of the contract of `inert_steps_lead_on` is proved by a lemma about paths, which is applied to paths of
-- inert steps.
use Rattle.theory.specs.Blocks.{Inert}
use Rattle.theory.proofs.Paths.{leads_here, leads_step, leads_append, leads_on}
use Rattle.theory.proofs.InertSteps.{leads_begins}
use Rattle.theory.proofs.inert.inert_steps_lead_on.Goals as goal

pub returns-clause-here : goal.returns-clause-here
returns-clause-here c = λ A blocks. leads_here (Inert A blocks)

pub returns-clause-step : goal.returns-clause-step
returns-clause-step c = λ A blocks. leads_step (Inert A blocks)

pub returns-clause-before : goal.returns-clause-before
returns-clause-before c =
    λ A blocks s t u inert. leads_append (Inert A blocks) s t u (leads_step (Inert A blocks) s t inert)

pub returns-clause-after : goal.returns-clause-after
returns-clause-after c = λ A blocks. leads_on (Inert A blocks)

pub returns-clause-joined : goal.returns-clause-joined
returns-clause-joined c = λ A blocks. leads_append (Inert A blocks)

pub returns-clause-begins : goal.returns-clause-begins
returns-clause-begins c = λ A blocks. leads_begins (Inert A blocks)
