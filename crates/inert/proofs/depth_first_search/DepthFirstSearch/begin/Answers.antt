use Rattle.std.proofs.Common.{rules, ◌∙◌, set, ap, sym, subst, arith}
use Rattle.std.proofs.lemmas.{Bool.false≢true, Grind.common_steps}
use Rattle.lts.proofs.CallerLemmas.{price_first}
use Rattle.lts.specs.Meter.{Costs}
use Rattle.inert.specs.{Search.Search, Search.SearchInvariant, Search.Completed, SearchMoves.ahead}
use Rattle.inert.proofs.Forward.{entered_on}
use Rattle.inert.proofs.{Reading.takes_framed, Reading.takes_bare, Reading.begun_ends, Resting.within}
use Rattle.inert.proofs.depth_first_search.DepthFirstSearch.begin.Goals.{After-step-step}
use Rattle.inert.proofs.depth_first_search.DepthFirstSearch.begin.Given.{Over}
use Rattle.inert.proofs.depth_first_search.DepthFirstSearch.begin.Goals as goal

-- A frame records which outgoing transitions of a state are still to be read. Suppose that no search is in progress,
-- and that the unvisited state s is then pushed with a frame for all of its outgoing transitions. Then the invariant of
-- the search still holds, and the number of visits that the search still has to make has not changed (`GoesOn`).
pub loop-k-init : goal.loop-k-init
loop-k-init g c = let rests = c.requires.rests in let w = c.args.self.now in
    let on = entered_on (subst (SearchInvariant c.args.lens.now c.args.signatures.now) rests.empty rests.walks)
    c.invariants.ensures.laws (within rests c.requires.state.0) c.requires.state.1 c.row-start.ensures
    (λ some. absurd (omega (arith, some))) (g.M.Meter.counted c.args.m.now) in
    grind (arith, common_steps, rests.empty, on)

pub step-step-requires-clause-room : goal.step-step-requires-clause-room
step-step-requires-clause-room g c = let i = c.loop-k.invariant in
    omega (arith, c.requires.room, i.begun.spends, price_first c.args.lens.now.visited _ _ c.loop-k-test.true)

-- A visit is a read of a transition that the meter counts. Suppose that the search has just read a transition of its
-- first state. Then the number of visits that the search has made since it began is at most the number of visits that
-- it had to make when it began.
spent : (g : Over) (c : After-step-step g) → Costs (g.M.Meter.counted c.args.m.now)
    (g.M.Meter.counted c.step-step.new.m) 0 0 (ahead c.args.lens.now c.args.self.now)
spent g c = let i = c.loop-k.invariant in
    let first = price_first c.args.lens.now.visited _ _ c.loop-k-test.true in
    omega (arith, c.step-step.ensures.visit, i.begun.spends, first)

pub loop-k-preserved : goal.loop-k-preserved
loop-k-preserved g c = let i = c.loop-k.invariant in
    let b = takes_bare c.invariants.ensures.laws c.invariants.ensures.lts
    (within c.requires.rests c.requires.state.0) i.same i.begun c.loop-k-test.true c.step-step.ensures.visit
    c.requires.state.1 c.in_ok-handle_step-2.field-0 c.step-step.result (search rules)
    (λ on. false≢true (sym c.if-leads_on.false ∙ c.leads_on.ensures.1 on)) c.in_ok-handle_step-2.ensures in
    grind (arith, common_steps, b)

-- This lemma covers the case in which the search has pushed its first state on the stack, and has added a frame for
-- this state. The frame records which outgoing transitions of the first state are still to be read. After the push, the
-- search has processed the transition at the place k (the index k in the list of all transitions).
pub returns-then-leads_on : goal.returns-then-leads_on
returns-then-leads_on g c = let i = c.loop-k.invariant in
    let went = takes_framed c.invariants.ensures.laws c.invariants.ensures.lts
    (within c.requires.rests c.requires.state.0) i.same i.begun c.loop-k-test.true c.step-step.ensures.visit
    c.step-step.result c.in_ok-handle_step.field-0 (search rules)
    (rw (c.in_ok-push_state.ensures, i.same) at c.in_ok-handle_step.ensures) in
    grind (arith, common_steps, went)

pub returns-in_err-push_state-clause-cost : goal.returns-in_err-push_state-clause-cost
returns-in_err-push_state-clause-cost g c = spent g (goal.at.returns-in_err-push_state-clause-cost g c).After-step-step

pub returns-in_err-handle_step-clause-cost : goal.returns-in_err-handle_step-clause-cost
returns-in_err-handle_step-clause-cost g c = spent g
    (goal.at.returns-in_err-handle_step-clause-cost g c).After-step-step

pub returns-in_err-handle_step-2-clause-cost : goal.returns-in_err-handle_step-2-clause-cost
returns-in_err-handle_step-2-clause-cost g c = spent g
    (goal.at.returns-in_err-handle_step-2-clause-cost g c).After-step-step

-- This lemma covers the case in which the search has pushed no state on the stack. The first state is completed as soon
-- as all of its outgoing transitions were read.
pub returns : goal.returns
returns g c = let i = c.loop-k.invariant in
    let ended = begun_ends c.invariants.ensures.laws c.invariants.ensures.lts
    (within c.requires.rests c.requires.state.0) i.same i.begun c.loop-k-test.false c.in_ok-id.ensures.union
    (ap (λ (w : Search). record w { stages = set w.stages c.args.s (Completed c.in_ok-id.id) })
    (c.self.view_is ∙ c.in_ok-id.ensures.others)) in
    grind (arith, common_steps, ended)
