use Rattle.std.proofs.Common.{rules, ◌≡◌}
use Rattle.theory.specs.System.{internal, hidden_label}
use Rattle.autfmt.proofs.Holding.{hidden_label-hidden, hidden_label-shown}
use Rattle.autfmt.proofs.held.label_id.Goals as goal
use Rattle.autfmt.proofs.held.label_id.Goals.{In-Some, In_default}

-- If the hide list (the list of the labels to hide) contains the label, then hiding changes the label into the internal
-- label.
hidden : (c : In-Some) → hidden_label c.args.h.now c.args.label.now ≡ internal
hidden c = search (rules, hidden_label-hidden, c.in-Some.ensures.number)

pub returns-in-Some-clause-number : goal.returns-in-Some-clause-number
returns-in-Some-clause-number c _ =
    rw (hidden ((goal.at.returns-in-Some-clause-number c).In-Some)) c.in_ok-number.ensures.number

pub returns-in-Some-clause-table : goal.returns-in-Some-clause-table
returns-in-Some-clause-table c _ =
    rw (hidden ((goal.at.returns-in-Some-clause-table c).In-Some)) c.in_ok-number.ensures.table

-- If the hide list (the list of the labels to hide) does not contain the label, then hiding does not change the label.
shown : (c : In_default) → hidden_label c.args.h.now c.args.label.now ≡ c.args.label.now
shown c = hidden_label-shown c.args.h.now c.args.label.now c.in_default.ensures.number

pub returns-clause-number : goal.returns-clause-number
returns-clause-number c _ =
    rw (shown ((goal.at.returns-clause-number c).In_default)) c.in_ok-number-2.ensures.number

pub returns-clause-table : goal.returns-clause-table
returns-clause-table c _ = rw (shown ((goal.at.returns-clause-table c).In_default)) c.in_ok-number-2.ensures.table
