use Rattle.std.proofs.{Common.arith, lemmas.Grind.common_steps}
use Rattle.signatures.proofs.{Uniting.AreUnions-grow, Storing.Grow-push}
use Rattle.signatures.proofs.trie.Trie.add_list.Goals as goal

pub invariant_of-self-in_err-id : goal.invariant_of-self-in_err-id
invariant_of-self-in_err-id c =
    rw (c.in_err-id.ensures.err, c.make_room.ensures.same, c.reserve.ensures.items) c.self.invariant

pub invariant_of-self-2 : goal.invariant_of-self-2
invariant_of-self-2 c = (
  grind (arith, common_steps),
  rw c.in_ok-id.ensures.pushed (AreUnions-grow (Grow-push c.self.inside.nodes _)
      c.self.inside.union_cache c.self.invariant.1),
)
