use Rattle.std.proofs.Common.{◌+◌, length}
use Rattle.signatures.specs.Lists.{list_at}
use Rattle.signatures.proofs.unions.+with.Given as goal

abbrev pub decreases-with : goal.decreases-with
decreases-with l = length l.pairs.now + length (list_at l.trie.now l.k)
