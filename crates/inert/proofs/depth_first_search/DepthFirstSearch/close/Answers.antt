use Rattle.std.proofs.Common.{rules, arith}
use Rattle.std.proofs.lemmas.Grind.{elements}
use Rattle.inert.proofs.Invariant.{open_inside}
use Rattle.inert.proofs.depth_first_search.DepthFirstSearch.close.Goals as goal

pub loop-p-init : goal.loop-p-init
loop-p-init c = search (rules, c.self.view_is, open_inside, c.requires.open)

pub loop-p-preserved : goal.loop-p-preserved
loop-p-preserved c = grind (arith, elements)
