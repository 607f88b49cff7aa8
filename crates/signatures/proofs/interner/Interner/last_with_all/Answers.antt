use Rattle.std.proofs.Common.{◌-◌, length, arith}
use Rattle.signatures.proofs.ExtendedLists.{includes_all}
use Rattle.signatures.proofs.interner.Interner.last_with_all.Goals as goal

pub returns-then-has_pairs-clause-exactly : goal.returns-then-has_pairs-clause-exactly
returns-then-has_pairs-clause-exactly c =
    includes_all c.args.self.now c.args.lists.now c.args.pairs.now (length c.args.lists.now - 1) (omega arith)
    (c.has_lists.ensures c.if-has_lists.true) (c.has_pairs.ensures.0 c.if-has_pairs.true)
