use Rattle.std.proofs.Common.{rules, ◌≡◌, ℕ, ◌++◌, ◌∷◌, ◌<◌, List, [], length, ap, arith}
use Rattle.signatures.proofs.Storing.{lists-next, IsNext, AreNodes-next, length-lists}
use Rattle.signatures.specs.{declared.nodes.TheConstants.MOST_LISTS, declared.nodes.Node.Node, Nodes.lists_of_nodes}
use Rattle.signatures.proofs.nodes.Nodes.push.Goals.{After-push_reserved}
use Rattle.signatures.proofs.nodes.Nodes.push.Goals as goal

few : (pairs : List (ℕ × ℕ)) (nodes : List Node) {lists : List (List (ℕ × ℕ))} → lists_of_nodes pairs nodes ≡ lists
    → length lists < MOST_LISTS → length nodes < MOST_LISTS
few pairs nodes view low = let same = ap length view in omega (arith, length-lists pairs nodes)

module _ (c : After-push_reserved) where
  next : IsNext c.self.inside.pairs.items c.match-shape.self-inside.pairs.items c.args.shape c.match-shape.node
  next = search rules

  nodes : c.push_reserved.new.self.items ≡ c.self.inside.nodes.items ++ c.match-shape.node ∷ []
  nodes = search rules

pub invariant_of-self-2 : goal.invariant_of-self-2
invariant_of-self-2 c =
    rw (nodes c) (AreNodes-next _ _ _ c.match-shape.node c.self.invariant c.args.shape (next c)
    (few _ _ c.self.view_is c.requires.few) (rw c.self.view_is c.requires.suits))

pub returns-clause-pushed : goal.returns-clause-pushed
returns-clause-pushed c =
    search (rules, nodes, c.match-shape.node, c.self.invariant, next, c.self.view_is, lists-next)

pub overflow_cast-id : goal.overflow_cast-id
overflow_cast-id c =
    search (rules, c.reserve.ensures.items, c.len-id.ensures, few, c.self.view_is, c.requires.few)

pub returns-clause-id : goal.returns-clause-id
returns-clause-id c = search (rules, c.reserve.ensures.items, c.self.view_is, c.len-id.ensures, length-lists)
