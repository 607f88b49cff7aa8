-- The contract of `splitting_keeps` is proved by a lemma.
use Rattle.theory.proofs.RefinementLaws.{split_kept}
use Rattle.theory.proofs.laws.splitting_keeps.Goals as goal

pub returns : goal.returns
returns c = split_kept
