use Rattle.std.proofs.Common.{arith}
use Rattle.signatures.{specs.Extensions.parts_of, proofs.ExtendedLists.has_either}
use Rattle.signatures.proofs.interner.Interner.has.Goals as goal

pub returns-then-has : goal.returns-then-has
returns-then-has c =
    grind (arith, has_either _ _ c.self.view_is _ c.requires (parts_of c.of-list.result) c.of-list.ensures c.args.pair)

pub returns : goal.returns
returns c =
    grind (arith, has_either _ _ c.self.view_is _ c.requires (parts_of c.of-list.result) c.of-list.ensures c.args.pair)
