use Rattle.theory.proofs.Refinement.{split_of_blocks}
use Rattle.theory.proofs.fixpoint.split_exists.Goals as goal

pub returns : goal.returns
returns c = λ rel A old sys. split_of_blocks rel A sys old
