use Rattle.theory.proofs.Refinement.{final_share}
use Rattle.theory.proofs.fixpoint.final_blocks_are_bisimilarity.Goals as goal

pub returns : goal.returns
returns c = λ rel A k blocks sys turns after s t ls lt. (
  λ e. (final_share rel A sys k blocks turns after s t).0 (ls, lt, e),
  λ b. ((final_share rel A sys k blocks turns after s t).1 b).2,
)
