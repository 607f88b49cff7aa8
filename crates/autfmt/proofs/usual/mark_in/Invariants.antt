use Rattle.std.proofs.Common.{◌-◌, ◌≤◌, length}
use Rattle.autfmt.proofs.usual.mark_in.Given as goal

abbrev pub decreases-loop-i : goal.decreases-loop-i
decreases-loop-i l = length l.bytes - l.i

abbrev pub invariant-loop-i : goal.invariant-loop-i
invariant-loop-i l = l.i ≤ length l.bytes
