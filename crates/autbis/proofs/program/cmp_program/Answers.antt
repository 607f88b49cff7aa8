use Rattle.std.proofs.Common.{rules, ℕ, Bool, if◌then◌else◌, ap, sym}
use Rattle.autbis.proofs.Ending.{ends_cmp, ends_verdict}
use Rattle.autbis.proofs.program.cmp_program.Goals as goal

-- `status same` is the exit status of a comparison that has not failed. The exit status is 0 if the systems are
-- equivalent, and 1 if they are not equivalent.
abbrev status : Bool → ℕ
status same = if same then 0 else 1

pub returns-in-Ok-true-clause-ends : goal.returns-in-Ok-true-clause-ends
returns-in-Ok-true-clause-ends g c =
    let got = c.in-Ok-true.ensures.outcome in
    ends_verdict got.took (ap status (sym c.in-Ok-true.field-0-test)) got.outcome

pub returns-in-Ok-false-clause-ends : goal.returns-in-Ok-false-clause-ends
returns-in-Ok-false-clause-ends g c =
    let got = c.in-Ok-false.ensures.outcome in
    ends_verdict got.took (ap status (sym c.in-Ok-false.field-0-test)) got.outcome

pub returns-in-Err-clause-ends : goal.returns-in-Err-clause-ends
returns-in-Err-clause-ends g c =
    let got = c.in-Err.ensures.outcome in
    rw c.report.ensures.status
    (ends_cmp got.took _ c.in-Err.ensures.unread c.in-Err.ensures.untouched got.outcome)

pub returns-in-Err-clause-unread : goal.returns-in-Err-clause-unread
returns-in-Err-clause-unread g c two = search rules
