use Rattle.std.proofs.Common.{rules, [], ◌∷◌, ◌++◌, arith}
use Rattle.std.proofs.lemmas.Grind.{common_steps}
use Rattle.lts.specs.Rows.{in_rows, AreRows}
use Rattle.lts.proofs.StoredRows.{AreRows-push, rows-told}
use Rattle.lts.proofs.ascending_rows.Rows.push.Goals as goal

rows : (c : goal.After-push_reserved) →
    AreRows (in_rows c.self.inside.ends.items c.self.inside.pairs.items ++ (c.args.source, c.args.label, c.args.target)
    ∷ [])
    c.end_rows.new.ends.items c.push_reserved.new.self.items
rows c = grind (arith, common_steps, AreRows-push)

pub returns-clause-pushed : goal.returns-clause-pushed
returns-clause-pushed c _ = search (rules, rows-told, rows)

pub invariant_of-self-2 : goal.invariant_of-self-2
invariant_of-self-2 c = search (rules, rows-told, rows)
