use Rattle.std.proofs.Common.{rules}
use Rattle.autbis.proofs.Ending.{ends_minimised, ends_run}
use Rattle.autbis.proofs.program.min_program.Goals as goal

pub returns-then-stats-clause-ends : goal.returns-then-stats-clause-ends
returns-then-stats-clause-ends g c = ends_minimised c.in-Ok.ensures.outcome.took c.in-Ok.ensures.outcome.outcome

pub returns-then-stats-clause-shown : goal.returns-then-stats-clause-shown
returns-then-stats-clause-shown g c zero asked = search rules

pub returns-else-stats-clause-ends : goal.returns-else-stats-clause-ends
returns-else-stats-clause-ends g c = ends_minimised c.in-Ok.ensures.outcome.took c.in-Ok.ensures.outcome.outcome

pub returns-in-Err-clause-ends : goal.returns-in-Err-clause-ends
returns-in-Err-clause-ends g c =
    let got = c.in-Err.ensures.outcome in
    rw c.report.ensures.status (ends_run got.took c.in-Err.ensures.untouched got.outcome)
