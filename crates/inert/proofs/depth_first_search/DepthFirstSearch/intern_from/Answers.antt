use Rattle.std.proofs.Common.{◌∙◌, drop, ap, subst, arith, take_all, length-drop}
use Rattle.inert.specs.SearchMoves.{IsUnionOfItems}
use Rattle.inert.proofs.depth_first_search.DepthFirstSearch.intern_from.Goals as goal

pub returns-clause-union : goal.returns-clause-union
returns-clause-union c = let xs = c.deref.result.now in
    let n = c.args.first in
    subst (λ ys. IsUnionOfItems ys c.args.signatures.now c.intern_items.new.signatures c.in_ok-id.id)
    (take_all _ (drop n xs) (omega (arith, length-drop n xs))
    ∙ ap (drop n) (c.deref.ensures.value ∙ ap (λ w. w.items) c.self.view_is)) c.in_ok-id.ensures
