use Rattle.std.proofs.Common.{ℕ, List, ◌≡◌, length, arith}
use Rattle.lts.specs.Lts.{system_of}
use Rattle.theory.specs.System.{AnyStep, Step}
use Rattle.theory.proofs.CallerLemmas.{leads_keeps}
use Rattle.quotient_core.specs.Numbers.{IsMarked}
use Rattle.quotient_core.proofs.Reaching.{marked_below, row_ahead, ReadsOnce-room, ReadsOnce-visits, ReadsOnce-row}
use Rattle.quotient_core.proofs.search.reachable.Goals as goal

pub mark_targets-requires : goal.mark_targets-requires
mark_targets-requires g c = let reads = rw c.in-Some.ensures.items at c.loop-s.invariant in
    record { search = rw c.states.ensures.value reads.search; room = ReadsOnce-room reads c.requires.room }

pub loop-s-preserved : goal.loop-s-preserved
loop-s-preserved g c = let done = rw c.states.ensures.value at c.in_ok-mark_targets.ensures in
    ReadsOnce-row (rw c.in-Some.ensures.items at c.loop-s.invariant) c.mark_targets.ensures.visits done.places
    done.search

pub loop-s-smaller : goal.loop-s-smaller
loop-s-smaller g c = let done = rw c.states.ensures.value at c.in_ok-mark_targets.ensures in
    let ahead = row_ahead (rw c.in-Some.ensures.items at c.loop-s.invariant) in
    rw c.in-Some.ensures.items (omega (arith, done.queue, done.places, ahead))

pub returns-in_err-mark_targets-clause-visits : goal.returns-in_err-mark_targets-clause-visits
returns-in_err-mark_targets-clause-visits g c =
    ReadsOnce-visits (rw c.in-Some.ensures.items at c.loop-s.invariant) c.mark_targets.ensures.visits

pub returns-clause-exactly : goal.returns-clause-exactly
returns-clause-exactly g c s = let l = c.args.l.now in
    let held = c.loop-s.invariant.search in
    let marked = c.loop-s.search.marked.items in
    let none : length c.loop-s.search.queue.items ≡ 0 =
    omega (arith, c.loop-s.search.queue.ok.0, c.in_default.ensures.cases.0) in
    let on : (u : ℕ) (a : List ℕ) (v : ℕ) → IsMarked marked u → Step (system_of l) u a v → IsMarked marked v =
    λ u a v m step. let cases = held.followed u v a (marked_below l.states marked u held.size m) m step in
    grind (arith, none, cases) in (
      held.only_reachable s,
      λ way. leads_keeps (AnyStep (system_of l)) (IsMarked marked) (λ u v r m. on u r.0 v m r.1) l.first s way
          held.first,
    )
