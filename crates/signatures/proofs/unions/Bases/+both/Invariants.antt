use Rattle.std.proofs.Common.{◌+◌, length}
use Rattle.signatures.specs.Lists.{list_at}
use Rattle.signatures.proofs.unions.Bases.+both.Given as goal

abbrev pub decreases-both : goal.decreases-both
decreases-both l = length (list_at l.self.now.trie l.j) + length (list_at l.self.now.trie l.k)
