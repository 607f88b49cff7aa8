use Rattle.std.proofs.Common.{◌≡◌, length}
use Rattle.calling.proofs.rounds_of.Given as goal

abbrev pub invariant-loop : goal.invariant-loop
invariant-loop l = length l.blocks ≡ l.system.states
