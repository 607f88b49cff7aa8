use Rattle.std.proofs.Common.{rules}
use Rattle.signatures.proofs.Storing.{AreNodes-first, lists-first, nodes-cleared}
use Rattle.signatures.proofs.nodes.Nodes.clear.Goals as goal

pub invariant_of-self : goal.invariant_of-self
invariant_of-self c =
    search (rules, c.clear.ensures.items, c.truncate.ensures.items, nodes-cleared, c.self.invariant, AreNodes-first)

pub returns : goal.returns
returns c =
    search (rules, c.clear.ensures.items, c.truncate.ensures.items, nodes-cleared, c.self.invariant, lists-first)
