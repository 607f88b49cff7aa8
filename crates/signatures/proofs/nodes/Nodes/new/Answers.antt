use Rattle.signatures.proofs.Storing.{AreNodes-first, lists-first}
use Rattle.signatures.proofs.nodes.Nodes.new.Goals as goal

pub invariant_of-result : goal.invariant_of-result
invariant_of-result c = rw (c.new.ensures.items, c.in_ok-push.ensures.items, c.new-nodes.ensures.items) AreNodes-first

pub returns : goal.returns
returns c = rw (c.new.ensures.items, c.in_ok-push.ensures.items, c.new-nodes.ensures.items) lists-first
