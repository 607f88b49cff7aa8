use Rattle.buckets.proofs.Entries.{Emptied}
use Rattle.buckets.proofs.chains.empty_each.Given as goal

abbrev pub invariant-loop-entry : goal.invariant-loop-entry
invariant-loop-entry l = Emptied l.initial.heads l.entry-index l.heads
