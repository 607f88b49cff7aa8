use Rattle.std.proofs.Common.{arith}
use Rattle.signatures.proofs.Cuts.{highest, leading_place}
use Rattle.signatures.proofs.cut.cut.Goals as goal

pub overflow_sub-bit : goal.overflow_sub-bit
overflow_sub-bit c = omega (arith, (highest c.args.low c.args.high c.requires c.ranges.high.fits).1)

pub returns : goal.returns
returns c = leading_place c.args.low c.args.high c.requires c.ranges.high.fits
