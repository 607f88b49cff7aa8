-- Each clause of the contract of `systems_are_compared` follows from a lemma about bisimilar states, which is applied
-- to the first states of the systems.
use Rattle.theory.proofs.Bisimulations.{bisimilar_flipped}
use Rattle.theory.proofs.Turning.{bisimilar_refl}
use Rattle.theory.proofs.Comparing.{bisimilar_across}
use Rattle.theory.proofs.across.systems_are_compared.Goals as goal

pub returns-clause-reflexive : goal.returns-clause-reflexive
returns-clause-reflexive c = λ rel A sys. bisimilar_refl rel A sys A.first sys.first

pub returns-clause-symmetric : goal.returns-clause-symmetric
returns-clause-symmetric c = λ rel A B. bisimilar_flipped rel A B A.first B.first

pub returns-clause-transitive : goal.returns-clause-transitive
returns-clause-transitive c = λ rel A B C sys sys'. bisimilar_across rel A B C sys sys' A.first B.first C.first
