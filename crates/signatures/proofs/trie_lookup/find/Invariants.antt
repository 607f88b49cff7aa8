use Rattle.signatures.{specs.Nodes.list_of_shape, proofs.Storing.IsReached}
use Rattle.signatures.proofs.trie_lookup.find.Given as goal

abbrev pub invariant-loop-r : goal.invariant-loop-r
invariant-loop-r l = IsReached l.nodes (list_of_shape l.nodes l.shape) l.r

abbrev pub decreases-loop-r : goal.decreases-loop-r
decreases-loop-r l = l.r
