use Rattle.std.proofs.Common.{rules, le-ltb}
use Rattle.std.proofs.lemmas.{List.get_or_read, Nat.Bits.shr_and_one}
use Rattle.lts.proofs.Visits.{first_visited, bit_tells, none_past}
use Rattle.lts.proofs.visited.Visited.has.Goals as goal

pub returns-then-place-self : goal.returns-then-place-self
returns-then-place-self c = search (rules, first_visited)

pub returns-then-word-len : goal.returns-then-word-len
returns-then-word-len c = search (rules, get_or_read, shr_and_one, bit_tells)

pub returns-else-word-len : goal.returns-else-word-len
returns-else-word-len c = search (rules, le-ltb, none_past)
