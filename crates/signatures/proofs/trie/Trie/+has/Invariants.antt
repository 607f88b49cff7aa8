use Rattle.signatures.proofs.trie.Trie.+has.Given as goal

abbrev pub decreases-has : goal.decreases-has
decreases-has l = l.k
