use Rattle.std.proofs.Common.{subst}
use Rattle.lts.specs.Labels.{IsTable}
use Rattle.lts.proofs.StoredRows.{laid_out-made, IsLaidOut-grouped}
use Rattle.lts.proofs.lts.Lts.from_shared.Goals as goal

pub invariant_of-result : goal.invariant_of-result
invariant_of-result g c =
    IsLaidOut-grouped c.args.labels.value _ _ _ _ _ c.requires c.in_ok-ends.ensures.ends c.in_ok-ends.ensures.pairs
    (subst IsTable c.as_ref.ensures c.invariants.ensures)

pub returns : goal.returns
returns g c = laid_out-made _ _ _ _ _ _ c.requires c.in_ok-ends.ensures.ends c.in_ok-ends.ensures.pairs
