use Rattle.std.proofs.Common.{◌<◌, length}
use Rattle.signatures.specs.{Lists.Grow, Extensions.parts_of, Extensions.extended, Extensions.extended_lists}
use Rattle.signatures.proofs.Storing.{IsReached}
use Rattle.signatures.proofs.table.Table.find.Given as goal

abbrev pub invariant-loop-r : goal.invariant-loop-r
invariant-loop-r l = record {
  grow : Grow l.fn.bases.trie l.bases.trie;
  low : l.r < length l.self.extensions;
  reached : IsReached (extended_lists l.fn.bases.trie l.self.extensions) (extended l.fn.bases.trie (parts_of l.list))
      l.r;
}

abbrev pub decreases-loop-r : goal.decreases-loop-r
decreases-loop-r l = l.r
