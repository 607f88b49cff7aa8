use Rattle.std.proofs.Common.{arith}
use Rattle.signatures.proofs.{Cuts.below_has, Cuts.above_has, Uniting.halved_parted}
use Rattle.signatures.proofs.trie.Trie.+has.Goals as goal

pub returns-then-key-halves : goal.returns-then-key-halves
returns-then-key-halves t c = grind (arith, below_has (halved_parted c.in-Halved.ensures) c.args.pair)

pub returns-else-key-halves : goal.returns-else-key-halves
returns-else-key-halves t c = grind (arith, above_has (halved_parted c.in-Halved.ensures) c.args.pair)
