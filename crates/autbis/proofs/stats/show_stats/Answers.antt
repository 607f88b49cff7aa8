use Rattle.std.proofs.Common.{rules}
use Rattle.autbis.proofs.stats.show_stats.Goals as goal

-- The prover could find this proof by itself, so the proof could be left out. With the proof, however, the prover
-- rejects incorrect code faster.
pub returns : goal.returns
returns g c = search rules
