use Rattle.quotient_core.specs.Search.{ReadsOnce}
use Rattle.quotient_core.proofs.search.Search.over_states.Given as goal

abbrev pub invariant-loop-s : goal.invariant-loop-s
invariant-loop-s g l = ReadsOnce l.l l.search.marked.items l.s l.search.queue.items (g.M.Meter.counted l.fn.m)
    (g.M.Meter.counted l.m)
