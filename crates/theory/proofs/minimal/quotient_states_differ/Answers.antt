use Rattle.theory.proofs.QuotientStates.{quotient_apart}
use Rattle.theory.proofs.minimal.quotient_states_differ.Goals as goal

pub returns : goal.returns
returns c = λ rel A Q s t sys quotient b. quotient_apart rel A Q sys quotient s t b
