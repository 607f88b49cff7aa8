use Rattle.std.proofs.Common.{◌+◌, length}
use Rattle.quotient_core.specs.Search.{ReadsOnce, places_ahead}
use Rattle.quotient_core.proofs.search.reachable.Given as goal

abbrev pub invariant-loop-s : goal.invariant-loop-s
invariant-loop-s g l = ReadsOnce l.l l.search.marked.items l.l.states l.search.queue.items (g.M.Meter.counted l.fn.m)
    (g.M.Meter.counted l.m)

abbrev pub decreases-loop-s : goal.decreases-loop-s
decreases-loop-s g l =
    places_ahead l.l.places l.l.states l.search.marked.items l.search.queue.items + length l.search.queue.items
