use Rattle.theory.proofs.Numbers.{number_below, number_taken}
use Rattle.theory.proofs.minimal.numbers_are_states.Goals as goal

pub returns-clause-below : goal.returns-clause-below
returns-clause-below c = λ rel A Q s n sys quotient h. number_below rel A sys Q.states quotient.states s n h

pub returns-clause-taken : goal.returns-clause-taken
returns-clause-taken c = λ rel A Q n sys quotient low. number_taken rel A sys Q.states quotient.states n low
