use Rattle.std.proofs.Common.{rules, ◌≡◌, ◌∙◌, ℕ, ◌-◌, ◌<◌, ◌≤◌, List, length, slice_index, sym, inl, inr, arith, refl}
use Rattle.std.proofs.Common.{ap}
use Rattle.std.proofs.lemmas.List.Sums.{length-filter, count_by-le-length}
use Rattle.std.proofs.lemmas.{Bool.cases_lt, Bool.false≢true, Grind.common_steps}
use Rattle.inert.specs.Search.{VisitState, stage_at, Completed, IsFinished, rest}
use Rattle.inert.proofs.{Invariant.stays_on, Invariant.goes_on, Resting.finished}
use Rattle.inert.proofs.signer.search_all.Goals as goal

-- Suppose that the active states (the states that the round processes) at the indices from i on are completed, and that
-- they stay completed. If the active state at the index before i is now completed too, all active states from this
-- index on are completed.
all_on : (old new : List VisitState) (active : List ℕ) (i : ℕ)
    → ((s k : ℕ) → stage_at old s ≡ Completed k → stage_at new s ≡ Completed k)
    → IsFinished new (slice_index active (i - 1))
    → ((j : ℕ) → i ≤ j → j < length active → IsFinished old (slice_index active j)) → (j : ℕ) → i - 1 ≤ j
    → j < length active → IsFinished new (slice_index active j)
all_on old new active i still here were j from h = elim (cases_lt j i) [
  | inl last ↦ let same : j ≡ i - 1 = omega (arith, from, last) in rw same here
  | inr after ↦ let was = were j after h in (was.0, still (slice_index active j) was.0 was.1)
]

pub loop-i-init : goal.loop-i-init
loop-i-init g c = let at = g.M.Meter.counted c.args.m.now in
    let on = stays_on {first = at} {second = at} {old = c.args.search.now} c.requires.rests.walks refl (omega arith) in
    let none = ap (λ w. rest c.args.lens.now.visited w.frames) c.requires.rests.empty in
    search (rules, length-filter, count_by-le-length, c.requires.rests, on, none)

pub loop-i-preserved-then-not-is_unvisited : goal.loop-i-preserved-then-not-is_unvisited
loop-i-preserved-then-not-is_unvisited g c = let inv = c.loop-i.invariant in
    let here = finished (record { empty = inv.rests.empty; walks = inv.rests.on.walks })
    (slice_index c.args.active.now (c.loop-i.i - 1))
    (λ is. false≢true (sym c.if-not-is_unvisited.true ∙ c.is_unvisited.ensures.1 is)) in
    let stages = c.loop-i.search.stages in
    let all = all_on stages stages c.args.active.now c.loop-i.i (λ s k e. e) here inv.all in
    grind (arith, common_steps, all, inv)

pub loop-i-preserved : goal.loop-i-preserved
loop-i-preserved g c = let inv = c.loop-i.invariant in
    let done = c.in_ok-finish.ensures in
    let all = all_on _ _ c.args.active.now c.loop-i.i done.rests.on.seen.finished done.finished inv.all in
    grind (arith, common_steps, done, all, goes_on inv.rests.on done.rests.on, inv)
