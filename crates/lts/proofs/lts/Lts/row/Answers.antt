use Rattle.std.proofs.Common.{arith, ap}
use Rattle.lts.proofs.StoredRows.{laid_out-states, laid_out-row}
use Rattle.lts.proofs.lts.Lts.row.Goals as goal

pub between-requires : goal.between-requires
between-requires g c = (
  omega arith,
  omega (arith, laid_out-states _ _ _ c.self.invariant, ap (λ l. l.states) c.self.view_is, c.requires),
)

pub returns : goal.returns
returns g c = rw (c.between.ensures, ← c.self.view_is) (laid_out-row _ _ _ c.self.invariant c.args.s
    (omega (arith, ap (λ l. l.states) c.self.view_is, c.requires)))
