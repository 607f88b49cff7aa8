use Rattle.std.proofs.Common.{rules, ◌≡◌, ◌∙◌, ◌<◌, length, ap, sym, arith}
use Rattle.std.proofs.lemmas.List.{get_or_read}
use Rattle.signatures.specs.Nodes.{lists_of_nodes, StoresNode}
use Rattle.signatures.specs.{declared.nodes.Node.Node, declared.nodes.Node.TheVariants.Whole, Nodes.node_at}
use Rattle.signatures.proofs.Storing.{length-lists, list_whole, length-part}
use Rattle.signatures.proofs.nodes.Nodes.shape.Goals.{After-index}
use Rattle.signatures.proofs.nodes.Nodes.shape.Goals as goal

module _ (c : After-index) where
  low : c.args.k < length c.self.inside.nodes.items
  low = search (rules, length-lists, c.requires, c.self.view_is)

  at : node_at c.self.inside.nodes.items c.args.k ≡ c.index.result.now
  at = sym (get_or_read c.self.inside.nodes.items _ _ low c.index.ensures (Whole 0 0))

  each_node : (node : Node) → c.index.result.now ≡ node
      → StoresNode c.self.inside.pairs.items (lists_of_nodes c.self.inside.pairs.items c.self.inside.nodes.items)
      c.args.k node
  each_node node is = rw (at ∙ is) at (c.self.invariant.each_node c.args.k low)

pub index-requires : goal.index-requires
index-requires c = search (rules, length-lists, c.self.view_is, c.requires, c.self.inside.nodes.ok)

pub part-requires : goal.part-requires
part-requires c =
    let within = (each_node ((goal.at.part-requires c).After-index) _ c.in-Whole.is).0 in
    omega (arith, within, ap length c.deref.ensures.value)

pub returns-in-Whole : goal.returns-in-Whole
returns-in-Whole c =
    let d = (goal.at.returns-in-Whole c).After-index in
    let few = (each_node d _ c.in-Whole.is).1 in
    let list = list_whole _ c.self.inside.nodes.items c.args.k _ _ (low d) (at d ∙ c.in-Whole.is) in (
      rw (c.part.ensures, c.deref.ensures.value, ← c.self.view_is) (sym list),
      omega (arith, ap length c.part.ensures, length-part c.deref.result.now c.in-Whole.start c.in-Whole.count),
    )

pub returns-in-Halved : goal.returns-in-Halved
returns-in-Halved c = rw (← c.self.view_is) (each_node ((goal.at.returns-in-Halved c).After-index) _ c.in-Halved.is)
