use Rattle.std.proofs.Common.{rules}
use Rattle.autbis.proofs.opener.DiskOpener.close.Goals as goal

-- The prover could find this proof by itself, so the proof could be left out. With the proof, however, the prover
-- rejects incorrect code faster.
pub returns-then-failures-gt0-clause-lost : goal.returns-then-failures-gt0-clause-lost
returns-then-failures-gt0-clause-lost g c = search rules
