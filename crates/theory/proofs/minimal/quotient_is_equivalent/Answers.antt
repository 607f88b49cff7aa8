use Rattle.theory.proofs.QuotientSteps.{quotient_equivalent}
use Rattle.theory.proofs.minimal.quotient_is_equivalent.Goals as goal

pub returns : goal.returns
returns c = λ rel A Q sys quotient. quotient_equivalent rel A Q sys quotient
