use Rattle.std.proofs.Common.{arith, refl}
use Rattle.std.proofs.lemmas.Bool.{lt-leb, le-leb}
use Rattle.autfmt.specs.Faults.LineFault.{unread, wrong}
use Rattle.autfmt.proofs.judge.judge_transition.Goals as goal

pub returns-then-source-from-clause-fault : goal.returns-then-source-from-clause-fault
returns-then-source-from-clause-fault c =
    wrong (c.in-Some.source, c.in-Some.label.now, c.in-Some.target) c.requires c.in-Some.ensures.found (grind arith)

pub returns-then-target-from-clause-fault : goal.returns-then-target-from-clause-fault
returns-then-target-from-clause-fault c =
    let n = c.args.promise.states in
    wrong (c.in-Some.source, c.in-Some.label.now, c.in-Some.target) c.requires c.in-Some.ensures.found
    (rw (lt-leb n c.in-Some.source (omega arith), le-leb n c.in-Some.target (omega arith)) refl)

pub returns-in_default-clause-fault : goal.returns-in_default-clause-fault
returns-in_default-clause-fault c =
    unread refl c.requires (λ x. c.in_default.ensures.none x.0 x.2 x.1)
