use Rattle.theory.proofs.Refinement.{bisimilar_to_one_share}
use Rattle.theory.proofs.Turning.{bisimilar_through}
use Rattle.theory.proofs.fixpoint.related_to_one_state_share.Goals as goal

pub returns-clause-share : goal.returns-clause-share
returns-clause-share c =
    λ rel A B k blocks s t x sys turns after b d. bisimilar_to_one_share rel A sys B k blocks after s t x b d

pub returns-clause-bisimilar : goal.returns-clause-bisimilar
returns-clause-bisimilar c = λ rel A B s t x sys b d. bisimilar_through rel A sys B s t x b d
