use Rattle.std.proofs.Common.{rules, ◌≡◌, ◌∙◌, ℕ, ◌+◌, ◌-◌, ◌<◌, ◌≤◌, length, slice_index, set, ap, sym}
use Rattle.std.proofs.Common.{subst, arith, refl}
use Rattle.std.proofs.lemmas.{Bool.false≢true, List.get_or_read, Grind.common_steps}
use Rattle.lts.specs.Visited.{price}
use Rattle.inert.specs.Search.{Search, SearchInvariant, frame_at}
use Rattle.inert.specs.SearchMoves.{HandlesStep, ahead}
use Rattle.inert.proofs.Invariant.{here, open_inside, on_stack, stays_on, goes_on}
use Rattle.inert.proofs.Reading.{Stays, Proceeds, taken, next_ahead}
use Rattle.inert.proofs.depth_first_search.DepthFirstSearch.read.Given.{Over}
use Rattle.inert.proofs.depth_first_search.DepthFirstSearch.read.Goals.{After-index, In_ok-handle_step}
use Rattle.inert.proofs.depth_first_search.DepthFirstSearch.read.Goals as goal

-- The variable `block` in the body of `read` is the block of the current state, which is the state whose outgoing
-- transitions are being read.
module _ (g : Over) (c : After-index g) where
  state : c.index.result.now ≡ slice_index c.args.self.now.stack (here c.args.self.now)
  state = let on = on_stack c.requires.walks c.requires.some in
      grind (arith, common_steps, on, get_or_read, c.index.ensures, c.top_frame-frame.ensures, c.self.view_is)

  -- A visit is a read of a transition that the meter counts. Reading the next transition takes 0 or 1 visits. This
  -- number is at most the number of visits that the search still has to make.
  most : {w : Search} {k : ℕ} → SearchInvariant c.args.lens.now c.args.signatures.now w → Stays c.args.self.now w k
      → k < c.top_frame-frame.result.end → price c.args.lens.now.visited k ≤ ahead c.args.lens.now w
  most walks stays more =
      next_ahead c.invariants.ensures.laws c.invariants.ensures.lts walks (omega (arith, stays.size, c.requires.some))
      (ap (λ x. x.next) stays.here) (grind (arith, stays.here, c.top_frame-frame.ensures, more))

pub bounds-blocks-index : goal.bounds-blocks-index
bounds-blocks-index g c = let walks = c.requires.walks in
    let inside = open_inside c.args.self.now.stages c.args.self.now.stack walks.opened (here c.args.self.now) 0
    (on_stack walks c.requires.some) in
    let state = state g (goal.at.bounds-blocks-index g c).After-index in
    omega (arith, state, inside, walks.sizes.size, c.invariants.ensures.size, ap length c.blocks-blocks.ensures)

pub loop-k-init : goal.loop-k-init
loop-k-init g c = let at = g.M.Meter.counted c.args.m.now in
    let on = stays_on {first = at} {second = at} {old = c.args.self.now} c.requires.walks refl (omega arith) in
    search (rules, on)

pub step-step-requires-clause-room : goal.step-step-requires-clause-room
step-step-requires-clause-room g c = let i = c.loop-k.invariant in
    let most = most g (goal.at.step-step-requires-clause-room g c).After-index i.on.walks i.stays c.loop-k-test.true in
    omega (arith, c.requires.room, i.on.spends, most)

-- The place of a transition is its index in the list of all transitions. The variable k of the loop in `read` is the
-- place of the next transition of the current state. Each iteration of the loop first marks this transition as read,
-- and then processes it. After both steps, the invariant of the search holds again (`Proceeds`).
proceeds : (g : Over) (c : In_ok-handle_step g) → Proceeds c.args.lens.now c.args.signatures.now
    (g.M.Meter.counted c.loop-k.m) (g.M.Meter.counted c.step-step.new.m) c.loop-k.self c.handle_step.new.self
    (c.loop-k.k + 1) c.in_ok-handle_step.field-0
proceeds g c = let i = c.loop-k.invariant in let d = (goal.at.In_ok-handle_step g c).After-index in
    let frames = c.self-in-loop-k.inside.frames.items in let n = c.len-last.result - 1 in
    let last : n ≡ length c.args.self.now.frames - 1 =
    omega (arith, c.len-last.ensures, c.self.inside.frames.ok.0, ap (λ w. length w.frames) c.self.view_is) in
    let size = ap (λ w. length w.frames) c.self-in-loop-k.view_is in
    let low : n < length frames = omega (arith, last, i.stays.size, c.requires.some, size) in
    let is : c.index_mut.result.now ≡ frame_at c.loop-k.self.frames n =
    get_or_read frames _ _ low c.index_mut.ensures.value _ ∙ ap (λ w. frame_at w.frames n) c.self-in-loop-k.view_is in
    let here = i.stays.here in
    taken c.invariants.ensures.laws c.invariants.ensures.lts i.on.walks (omega (arith, i.stays.size, c.requires.some))
    (ap (λ x. x.next) here) (grind (arith, here, c.top_frame-frame.ensures, c.loop-k-test.true))
    c.step-step.ensures.visit (omega (arith, last, i.stays.size)) (λ j. record (is j) { next = c.loop-k.k + 1 })
    (grind (arith, here, c.blocks-blocks.ensures, state g d, i.stays.stack)) c.step-step.result c.step-step.ensures.step
    (subst (λ (w : Search). HandlesStep c.args.lens.now.l.places c.step-step.result (record w {
      frames = set w.frames n (record c.index_mut.result.now { next = c.loop-k.k + 1 });
    }) c.handle_step.new.self c.in_ok-handle_step.field-0) c.self-in-loop-k.view_is c.in_ok-handle_step.ensures)

pub returns-in_err-handle_step-clause-cost : goal.returns-in_err-handle_step-clause-cost
returns-in_err-handle_step-clause-cost g c = let i = c.loop-k.invariant in
    let most =
    most g (goal.at.returns-in_err-handle_step-clause-cost g c).After-index i.on.walks i.stays c.loop-k-test.true in
    omega (arith, c.step-step.ensures.visit, i.on.spends, most)

pub loop-k-preserved : goal.loop-k-preserved
loop-k-preserved g c = let m = proceeds g (goal.at.loop-k-preserved g c).In_ok-handle_step in
    let stays = m.stays (λ e. false≢true (sym c.if-branch.false ∙ e)) in
    grind (arith, common_steps, goes_on c.loop-k.invariant.on m.on, stays, c.loop-k.invariant.stays)

pub returns-then-branch : goal.returns-then-branch
returns-then-branch g c = let i = c.loop-k.invariant in
    let m = proceeds g (goal.at.returns-then-branch g c).In_ok-handle_step in
    grind (arith, common_steps, goes_on i.on m.on, m.nearer c.if-branch.true, i.stays)
