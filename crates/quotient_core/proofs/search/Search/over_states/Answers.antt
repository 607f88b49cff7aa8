use Rattle.std.proofs.Common.{◌≡◌, false, get_or, replicate, arith, rules}
use Rattle.quotient_core.proofs.Reaching.{ReadsOnce-first, ReadsOnce-pass, ReadsOnce-skip, ReadsOnce-room}
use Rattle.quotient_core.proofs.Reaching.{ReadsOnce-visits, ReadsOnce-row}
use Rattle.quotient_core.proofs.search.Search.over_states.Goals as goal

pub loop-s-init : goal.loop-s-init
loop-s-init g c = let items : c.in_ok-vec.field-0.items ≡ replicate c.args.l.now.states false = search rules in
    rw (c.new.ensures.items, c.first.ensures, items)
    (ReadsOnce-first c.args.l.now _ c.states.ensures.lts.in_range.first_below)

pub loop-s-preserved-then-not-index : goal.loop-s-preserved-then-not-index
loop-s-preserved-then-not-index g c =
    let unmarked : get_or c.loop-s.search.marked.items c.loop-s.s false ≡ false = search rules in
    ReadsOnce-skip c.loop-s.invariant unmarked

pub mark_targets-requires : goal.mark_targets-requires
mark_targets-requires g c = let pass = ReadsOnce-pass c.loop-s.invariant c.states-s-end.ensures.value c.loop-s-test.true
    c.index.ensures c.if-not-index.false in
    record { search = pass.search; room = ReadsOnce-room pass c.requires.room }

pub returns-in_err-mark_targets-clause-visits : goal.returns-in_err-mark_targets-clause-visits
returns-in_err-mark_targets-clause-visits g c = ReadsOnce-visits (ReadsOnce-pass c.loop-s.invariant
    c.states-s-end.ensures.value c.loop-s-test.true c.index.ensures c.if-not-index.false) c.mark_targets.ensures.visits

pub loop-s-preserved : goal.loop-s-preserved
loop-s-preserved g c = let pass = ReadsOnce-pass c.loop-s.invariant c.states-s-end.ensures.value c.loop-s-test.true
    c.index.ensures c.if-not-index.false in
    let done = c.in_ok-mark_targets.ensures in
    ReadsOnce-row pass c.mark_targets.ensures.visits done.places done.search

pub returns-clause-reads : goal.returns-clause-reads
returns-clause-reads g c = let all : c.loop-s.s ≡ c.args.l.now.states = omega (arith, c.states-s-end.ensures.value) in
    rw all at c.loop-s.invariant
