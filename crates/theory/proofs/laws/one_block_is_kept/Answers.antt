-- The contract of `one_block_is_kept` is proved by a lemma.
use Rattle.theory.proofs.RefinementLaws.{one_block_kept}
use Rattle.theory.proofs.laws.one_block_is_kept.Goals as goal

pub returns : goal.returns
returns c = one_block_kept
