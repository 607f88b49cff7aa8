use Rattle.std.proofs.Common.{rules}
use Rattle.signatures.proofs.Uniting.{fingerprint_merged}
use Rattle.signatures.proofs.table.sum_of.Goals as goal

pub returns : goal.returns
returns c =
    search (rules, c.sum.ensures, c.fingerprint.ensures, fingerprint_merged, c.requires, c.invariants.ensures.stored)
