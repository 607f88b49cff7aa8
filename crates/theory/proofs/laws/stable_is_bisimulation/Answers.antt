-- The contract of `stable_is_bisimulation` is proved by a lemma, which is applied to the relation given by a list of
-- pairs.
use Rattle.theory.specs.Bisimulation.{Pairs}
use Rattle.theory.proofs.RefinementLaws.{stable_bisimulation}
use Rattle.theory.proofs.laws.stable_is_bisimulation.Goals as goal

pub returns : goal.returns
returns c = λ rel A blocks pairs system. stable_bisimulation rel A blocks (Pairs pairs) system
