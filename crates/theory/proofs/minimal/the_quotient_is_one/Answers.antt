-- Each clause of the contract of `the_quotient_is_one` is proved by a lemma.
use Rattle.theory.proofs.Determined.{same_states, same_first, same_transitions}
use Rattle.theory.proofs.minimal.the_quotient_is_one.Goals as goal

pub returns-clause-states : goal.returns-clause-states
returns-clause-states _ = same_states

pub returns-clause-first : goal.returns-clause-first
returns-clause-first _ = same_first

pub returns-clause-transitions : goal.returns-clause-transitions
returns-clause-transitions _ = λ rel A Q R e one other. same_transitions rel A Q R one other e
