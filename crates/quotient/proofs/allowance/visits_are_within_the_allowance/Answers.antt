use Rattle.std.proofs.Common.{◌+◌, ◌*◌, ◌≤◌, arith}
use Rattle.std.proofs.lemmas.Nat.{mul-le}
use Rattle.theory.specs.declared.relation.Relation.TheVariants.{Strong, Branching}
use Rattle.quotient.proofs.allowance.visits_are_within_the_allowance.Goals as goal

pub returns : goal.returns
returns c Strong n m r visits some most = most
returns c Branching n m r visits some most = let more : r ≤ r * n = omega (arith, mul-le r 1 r n (omega arith) some) in
    omega (arith, most, mul-le (r + 2) m (r * n + 2) m (omega arith) (omega arith))
