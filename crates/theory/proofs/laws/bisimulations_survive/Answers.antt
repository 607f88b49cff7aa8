-- The contract of `bisimulations_survive` is proved by a lemma, which is applied to the relation given by a list of
-- pairs.
use Rattle.theory.specs.Bisimulation.{Pairs}
use Rattle.theory.proofs.RefinementLaws.{bisimulation_survives}
use Rattle.theory.proofs.laws.bisimulations_survive.Goals as goal

pub returns : goal.returns
returns c = λ rel A old new pairs. bisimulation_survives rel A old new (Pairs pairs)
