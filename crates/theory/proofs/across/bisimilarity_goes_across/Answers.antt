-- Each clause of the contract of `bisimilarity_goes_across` is proved by a lemma.
use Rattle.theory.proofs.Bisimulations.{bisimilar_flipped}
use Rattle.theory.proofs.Comparing.{bisimilar_states, bisimilar_across}
use Rattle.theory.proofs.across.bisimilarity_goes_across.Goals as goal

pub returns-clause-states : goal.returns-clause-states
returns-clause-states c = bisimilar_states

pub returns-clause-symmetric : goal.returns-clause-symmetric
returns-clause-symmetric c = bisimilar_flipped

pub returns-clause-transitive : goal.returns-clause-transitive
returns-clause-transitive c = λ rel A B C s t u sys sys'. bisimilar_across rel A B C sys sys' s t u
