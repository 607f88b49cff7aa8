use Rattle.std.proofs.Common.{rules, ◌∙◌, ◌+◌, ◌≤◌, ◌<◌, length, slice_index, ap, sym, arith, get_or-take, below_more}
use Rattle.std.proofs.Transfers.{starts_with_length}
use Rattle.std.proofs.lemmas.List.{get_or_read}
use Rattle.lts.specs.{Lts.IsRow, Visited.price}
use Rattle.refine.proofs.{Searching.went, search.Search.read.Given.Over, search.Search.read.Goals.After-row-start}
use Rattle.refine.proofs.search.Search.read.Goals as goal

-- The place of a transition is its index in the list of all transitions. Let t be the found state at the index i in the
-- list of found states. The range that the call of `row` returns consists of exactly the places of the transitions
-- whose source is t.
module _ (g : Over) (c : After-row-start g) where
  row : IsRow c.args.lens.now.l.places (slice_index c.args.self.now.states c.args.i) c.row-start.result.0
      c.row-start.result.1
  row = search (rules, c.requires.more, c.self.view_is, get_or_read, c.index.ensures, c.row-start.ensures)

pub step-step-requires-clause-room : goal.step-step-requires-clause-room
step-step-requires-clause-room g c =
    let its = row g (goal.at.step-step-requires-clause-room g c).After-row-start in
    let one = ap (λ x. price x c.loop-k.k) c.requires.visited in
    omega (arith, c.requires.room, c.loop-k.invariant.cost, its.count, c.loop-k-test.true, one)

pub loop-k-preserved : goal.loop-k-preserved
loop-k-preserved g c =
    let u = c.args.lens.now in
    let k = c.loop-k.k in
    let its = row g (goal.at.loop-k-preserved g c).After-row-start in
    let at : k < length u.l.places = omega (arith, its.within, c.loop-k-test.true) in
    let from = (its.exactly k at).1 (omega (arith, c.loop-k.auto.k), c.loop-k-test.true) in
    let step = rw c.blocks-2.ensures at c.step-step.ensures.step in
    record {
      row = went u c.args.s c.invariants.ensures.lts c.invariants.ensures.laws c.inert_steps_stay.ensures.block
          c.loop-k.invariant.row (c.requires.found.led c.args.i c.requires.more) at from _ _ step
          c.in_ok-explore.ensures.takes;
      cost = search (rules, ap (λ x. price x k) c.requires.visited);
    }

pub returns-clause-found : goal.returns-clause-found
returns-clause-found g c =
    let i = c.args.i in
    let f = c.loop-k.self in
    let was = c.loop-k.invariant.row in
    let its = row g (goal.at.returns-clause-found g c).After-row-start in
    let same = sym (ap (λ xs. slice_index xs i) was.on.kept) ∙ get_or-take _ f.states i 0 c.requires.more in
    let few : i + 1 ≤ length f.states = omega (arith, c.requires.more, starts_with_length _ _ was.on.kept) in
    let taken = below_more _ i was.on.search.taken (λ k at is. let range = (its.exactly k at).0 (is ∙ sym same) in
    was.taken k (omega (arith, range.1, c.loop-k-test.false)) range.0) in
    search (rules, was.on, few, taken)
