use Rattle.quotient_core.proofs.Showing.{IsReadTo}
use Rattle.quotient_core.proofs.triples.read_class.Given as goal

abbrev pub invariant-loop-k : goal.invariant-loop-k
invariant-loop-k g l =
    IsReadTo l.l l.numbering l.number l.members l.k l.class.items (g.M.Meter.counted l.initial.m)
    (g.M.Meter.counted l.m)
