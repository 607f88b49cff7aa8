use Rattle.signatures.proofs.trie.Trie.+append_with.Given as goal

abbrev pub decreases-append_with : goal.decreases-append_with
decreases-append_with l = l.k
