use Rattle.std.proofs.Common.{length}
use Rattle.buckets.proofs.Entries.{Rechained}
use Rattle.buckets.proofs.chains.chain.Given as goal

abbrev pub invariant-loop-r : goal.invariant-loop-r
invariant-loop-r l = Rechained l.initial.entries (length l.initial.heads) l.r l.heads l.entries
