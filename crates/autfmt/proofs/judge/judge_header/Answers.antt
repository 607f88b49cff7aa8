use Rattle.std.proofs.Common.{arith, refl}
use Rattle.autfmt.specs.Faults.LineFault.{unread, wrong}
use Rattle.autfmt.proofs.judge.judge_header.Goals as goal

pub returns-then-states-eq0-clause-fault : goal.returns-then-states-eq0-clause-fault
returns-then-states-eq0-clause-fault c =
    wrong (c.in-Some.first, c.in-Some.transitions, c.in-Some.states) c.requires c.in-Some.ensures.found (grind arith)

pub returns-then-first-states-clause-fault : goal.returns-then-first-states-clause-fault
returns-then-first-states-clause-fault c =
    wrong (c.in-Some.first, c.in-Some.transitions, c.in-Some.states) c.requires c.in-Some.ensures.found (grind arith)

pub returns-then-states-from-clause-fault : goal.returns-then-states-from-clause-fault
returns-then-states-from-clause-fault c =
    wrong (c.in-Some.first, c.in-Some.transitions, c.in-Some.states) c.requires c.in-Some.ensures.found (grind arith)

pub returns-then-transitions-from-clause-fault : goal.returns-then-transitions-from-clause-fault
returns-then-transitions-from-clause-fault c =
    wrong (c.in-Some.first, c.in-Some.transitions, c.in-Some.states) c.requires c.in-Some.ensures.found (grind arith)

pub returns-in_default-clause-fault : goal.returns-in_default-clause-fault
returns-in_default-clause-fault c =
    unread refl c.requires (λ x. c.in_default.ensures.none x.0 x.1 x.2)
