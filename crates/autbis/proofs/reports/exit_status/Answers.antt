use Rattle.std.proofs.Common.{rules}
use Rattle.autbis.proofs.reports.exit_status.Goals as goal

-- The prover could find these proofs by itself, so the proofs could be left out. With the proofs, however, the prover
-- rejects incorrect code faster.
pub returns-in-Device : goal.returns-in-Device
returns-in-Device c = search rules

pub returns-in_default : goal.returns-in_default
returns-in_default c = search rules
