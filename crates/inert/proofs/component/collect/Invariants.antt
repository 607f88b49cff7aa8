use Rattle.std.proofs.Common.{◌+◌, ◌≤◌, length, take, vec_len, vec_capacity}
use Rattle.inert.specs.SearchMoves.{AreCollected}
use Rattle.inert.proofs.component.collect.Given as goal

abbrev pub invariant-loop-item : goal.invariant-loop-item
invariant-loop-item l = record {
  collected : AreCollected (take l.item-index l.items) l.signature_ids.items l.pairs.items;
  numbers_room : vec_len l.signature_ids + length l.items ≤ vec_capacity l.signature_ids + l.item-index;
  pairs_room : vec_len l.pairs + length l.items ≤ vec_capacity l.pairs + l.item-index;
}
