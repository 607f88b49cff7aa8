use Rattle.std.proofs.Common.{arith}
use Rattle.std.proofs.lemmas.Grind.{common_steps}
use Rattle.autfmt.proofs.cutter.Cutter.put_together.Goals as goal

pub returns-after-none-clause-step : goal.returns-after-none-clause-step
returns-after-none-clause-step g c = grind (arith, common_steps)
