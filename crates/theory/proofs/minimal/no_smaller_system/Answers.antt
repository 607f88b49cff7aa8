use Rattle.theory.proofs.Smallest.{quotient_smallest}
use Rattle.theory.proofs.minimal.no_smaller_system.Goals as goal

pub returns : goal.returns
returns c = λ rel A Q B sys other quotient same. quotient_smallest rel A Q B sys quotient same
