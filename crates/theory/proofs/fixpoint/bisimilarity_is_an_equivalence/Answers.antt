use Rattle.theory.proofs.Turning.{bisimilar_refl, bisimilar_sym, bisimilar_trans}
use Rattle.theory.proofs.fixpoint.bisimilarity_is_an_equivalence.Goals as goal

pub returns-clause-reflexive : goal.returns-clause-reflexive
returns-clause-reflexive c = λ rel A s sys l. bisimilar_refl rel A sys s l

pub returns-clause-symmetric : goal.returns-clause-symmetric
returns-clause-symmetric c = λ rel A s t sys b. bisimilar_sym rel A sys s t b

pub returns-clause-transitive : goal.returns-clause-transitive
returns-clause-transitive c = λ rel A s t u sys b d. bisimilar_trans rel A sys s t u b d
