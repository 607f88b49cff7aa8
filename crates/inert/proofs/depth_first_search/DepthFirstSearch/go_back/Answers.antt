use Rattle.std.proofs.Common.{rules, ◌≡◌, ◌≢◌, ◌∙◌, length, ap, sym, subst, arith}
use Rattle.std.proofs.lemmas.{Grind.common_steps, List.get_or_read}
use Rattle.inert.specs.Search.{Search, AreInternedItems}
use Rattle.inert.proofs.{depth_first_search.DepthFirstSearch.go_back.Given.Over, Invariant.here, Invariant.last}
use Rattle.inert.proofs.{Invariant.last_low, Back.popped, Back.popped_size, Back.popped_on, Back.closed}
use Rattle.inert.proofs.depth_first_search.DepthFirstSearch.go_back.Goals.{After-pop}
use Rattle.inert.proofs.depth_first_search.DepthFirstSearch.go_back.Goals as goal

-- A component is a strongly connected set of states on the stack. The root of a component is its first state on the
-- stack. The variable `root` in the body of `go_back` is the root of the component at the top of the stack. Each frame
-- belongs to a state on the stack, and records which outgoing transitions of this state are still to be read. When
-- `go_back` has popped the last frame, no other data of the search have changed.
module _ (g : Over) (c : After-pop g) where
  root : c.index-root.result.now ≡ last c.args.self.now.roots
  root = let low = last_low c.requires.walks c.requires.some in
      let roots = ap (λ w. w.roots) c.self.view_is in
      grind (arith, low, roots, c.len.ensures, c.self.inside.roots.ok.0, get_or_read, c.index-root.ensures)

  remaining : let w = c.self.inside in let now : Search = record {
    stages = w.stages.items;
    stack = w.stack.items;
    frames = c.pop.new.self.items;
    roots = w.roots.items;
    items = w.items.items;
  } in now ≡ popped c.args.self.now
  remaining = search rules

pub close-requires-clause-there : goal.close-requires-clause-there
close-requires-clause-there g c =
    subst (λ (w : Search). AreInternedItems c.args.signatures.now w.items) (sym c.self.view_is) c.requires.walks.there

pub returns-else-root-frame-clause-on : goal.returns-else-root-frame-clause-on
returns-else-root-frame-clause-on g c counts = let d = (goal.at.returns-else-root-frame-clause-on g c).After-pop in
    let apart : (last c.args.self.now.roots).height ≢ here c.args.self.now = search (rules, root g d) in
    rw (remaining g d) (popped_on c.requires.walks c.requires.some c.requires.read apart counts)

pub returns-in_ok-close : goal.returns-in_ok-close
returns-in_ok-close g c = let d = (goal.at.returns-in_ok-close g c).After-pop in
    let closes = rw (root g d, remaining g d) at c.in_ok-close.ensures in
    let r = c.requires in
    let done = closed c.invariants.ensures.laws c.invariants.ensures.lts r.walks r.some r.read (ap (λ x. x.height)
    (sym (root g d)) ∙ c.if-root-frame.true ∙ ap (λ x. x.height) c.top_frame-frame.ensures) closes in
    grind (arith, common_steps, done, ap length closes.frames, popped_size r.walks, r.some)
