use Rattle.theory.proofs.QuotientSteps.{numbered_bisimilar}
use Rattle.theory.proofs.minimal.states_are_bisimilar_to_their_numbers.Goals as goal

pub returns : goal.returns
returns c = λ rel A Q s n sys quotient path h. numbered_bisimilar rel A Q sys quotient s n (path, h)
