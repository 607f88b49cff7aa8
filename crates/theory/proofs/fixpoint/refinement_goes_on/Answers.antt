use Rattle.theory.proofs.Turning.{underway_begun, underway_below, underway_more, underway_done}
use Rattle.theory.proofs.fixpoint.refinement_goes_on.Goals as goal

pub returns-clause-begun : goal.returns-clause-begun
returns-clause-begun c = λ rel A blocks sys one. underway_begun rel A sys blocks one

pub returns-clause-below : goal.returns-clause-below
returns-clause-below c = λ rel A k blocks sys h. underway_below rel A sys k blocks h

pub returns-clause-more : goal.returns-clause-more
returns-clause-more c = λ rel A k old new sys h split apart. underway_more rel A sys k old new h split apart

pub returns-clause-done : goal.returns-clause-done
returns-clause-done c = λ rel A k old new sys h split same. underway_done rel A sys k old new h split same
