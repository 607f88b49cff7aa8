use Rattle.theory.proofs.UnionSteps.{union_system}
use Rattle.theory.proofs.unions.the_union_is_a_system.Goals as goal

pub returns : goal.returns
returns c = union_system
