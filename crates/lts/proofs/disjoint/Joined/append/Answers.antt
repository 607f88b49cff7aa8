use Rattle.std.proofs.Common.{rules, ◌+◌, ◌<◌, length, take, arith, length-take, take_all}
use Rattle.lts.specs.Lts.{Triple}
use Rattle.lts.proofs.{Rows.before-zero, Rows.before-all, Table.AddsShifted-length, Table.joins_next}
use Rattle.lts.proofs.disjoint.Joined.append.Goals as goal

pub loop-state-init : goal.loop-state-init
loop-state-init g c = search (rules, before-zero)

pub label_id-requires-clause-room : goal.label_id-requires-clause-room
label_id-requires-clause-room g c =
    let places = c.args.part.now.l.now.places in
    let size = AddsShifted-length _ _ (take c.loop-k.k places) _ _ _ _ c.loop-k.invariant.added in
    let taken = length-take c.loop-k.k places in
    omega (arith, size, taken, c.loop-k.invariant.joined.few, c.requires.fits, c.loop-k-test.true, c.row-start.ensures)

-- The loop appends a triple for the transition at the place k, which is the index k in the list of all transitions. The
-- variable `state` is the source of this transition. The new triple represents this transition.
pub loop-k-preserved : goal.loop-k-preserved
loop-k-preserved g c =
    let l = c.args.part.now.l.now in
    let within : c.loop-k.k < length l.places = omega (arith, c.loop-k-test.true, c.row-start.ensures.within) in
    let source = (c.row-start.ensures.exactly c.loop-k.k within).1 (c.loop-k.auto.k, c.loop-k-test.true) in
    let shift = c.args.part.now.shift in
    let e : Triple = (shift + c.loop-state.state, c.in_ok-number.number, shift + c.edge-label.result.1) in
    rw c.in_ok-push.ensures.items (joins_next e c.text.result.now c.loop-k.invariant c.label_id.ensures.is_table
    c.in_ok-number.ensures.table c.label_id.ensures.keeps c.in_ok-number.ensures.number _ c.invariants.ensures within
    (omega arith) (cc (c.text.ensures.text, c.labels.ensures, c.edge-label.ensures.label)) (omega arith)
    c.edge-label.ensures.visit)

pub returns : goal.returns
returns g c = let all = before-all c.args.part.now.l.now.states c.args.part.now.l.now.places
    (λ k d h. (c.invariants.ensures.in_range.each k d h).source) in
    search (rules, all, take_all, c.loop-state.invariant)
