use Rattle.std.proofs.Common.{rules, ◌∙◌, map, ap, sym}
use Rattle.lts.specs.Rows.{pair_of}
use Rattle.lts.proofs.{Rows.grouped-same, StoredRows.rows-ended}
use Rattle.lts.proofs.ascending_rows.Rows.finish.Goals as goal

pub returns-clause-ends : goal.returns-clause-ends
returns-clause-ends c = search (rules, rows-ended)

pub returns-clause-pairs : goal.returns-clause-pairs
returns-clause-pairs c =
    c.self.invariant.each_pair ∙ ap (map pair_of) (c.self.view_is ∙ sym (grouped-same c.args.states c.args.self
    (rw (← c.self.view_is) c.self.invariant.ascending) c.requires.sources))
