use Rattle.lts.specs.Lts.{before}
use Rattle.lts.proofs.Table.{HasAppended}
use Rattle.lts.proofs.disjoint.Joined.append.Given as goal

abbrev pub invariant-loop-state : goal.invariant-loop-state
invariant-loop-state g l = HasAppended l.part.l.now l.part.shift l.fn.self.labels l.fn.self.triples.items l.self.labels
    l.self.triples.items (g.M.Meter.counted l.fn.m) (g.M.Meter.counted l.m) (before l.state l.part.l.now.places)

abbrev pub invariant-loop-k : goal.invariant-loop-k
invariant-loop-k g l = HasAppended l.part.l.now l.part.shift l.fn.self.labels l.fn.self.triples.items l.self.labels
    l.self.triples.items (g.M.Meter.counted l.fn.m) (g.M.Meter.counted l.m) l.k
