use Rattle.std.proofs.Common.{refl}
use Rattle.autfmt.specs.Faults.LineFault.{unread}
use Rattle.autfmt.proofs.judge.judge_hide_line.Goals as goal

pub returns-in-None-clause-fault : goal.returns-in-None-clause-fault
returns-in-None-clause-fault c = unread refl c.requires c.in-None.ensures.none
