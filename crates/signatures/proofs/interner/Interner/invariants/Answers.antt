use Rattle.std.proofs.Common.{subst, arith}
use Rattle.signatures.{specs.Lists.AreLists, proofs.ExtendedLists.AreLists-extended}
use Rattle.signatures.proofs.interner.Interner.invariants.Goals as goal

pub returns : goal.returns
returns c = subst AreLists c.self.view_is (AreLists-extended c.self.invariant c.invariants.ensures.stored
    (omega (arith, c.invariants-2.ensures.few)))
