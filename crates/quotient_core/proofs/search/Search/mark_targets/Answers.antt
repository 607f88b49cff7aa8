use Rattle.std.proofs.Common.{ℕ, List, ◌≡◌, ◌∙◌, ◌<◌, length, sym, subst, arith, rules}
use Rattle.lts.specs.Lts.{target_of, place_at, system_of}
use Rattle.std.proofs.lemmas.{List.append-nil, List.length_push, Bool.cases_eq}
use Rattle.theory.proofs.CallerLemmas.{contains_here, contains_there, contains_cases, reachable_on}
use Rattle.lts.proofs.CallerLemmas.{step_at, place_step}
use Rattle.theory.specs.System.{Reachable, Step}
use Rattle.quotient_core.specs.Numbers.{IsMarked}
use Rattle.quotient_core.proofs.{search.Search.mark_targets.Given.Over, search.Search.mark_targets.Goals.In_ok-mark}
use Rattle.quotient_core.proofs.Reaching.{Follows, marked_below, mark_at, Searches-step, places_ahead-marks}
use Rattle.quotient_core.proofs.search.Search.mark_targets.Goals as goal

pub row-start-requires : goal.row-start-requires
row-start-requires g c = let held = c.requires.search in
    marked_below _ _ c.args.s held.size (held.each_waiting c.args.s (contains_here c.args.s _))

module _ (g : Over) (c : In_ok-mark g) where
  -- The target of the transition that was just read is a state of the system, so the list of marks contains an entry
  -- for this target.
  below : c.edge-target.result.1 < length c.loop-k.self.marked.items
  below = search rules

  -- Let s be the state whose transitions are read. If s is reachable, the target of the transition that was just read
  -- is reachable too.
  led_to : Reachable (system_of c.args.l.now) c.args.s → Reachable (system_of c.args.l.now) c.edge-target.result.1
  led_to from = let l = c.args.l.now in
      let at : c.loop-k.k < length l.places = omega (arith, c.row-start.ensures.within) in
      let own = (c.row-start.ensures.exactly c.loop-k.k at).1 (omega (arith, c.loop-k.auto.k), omega arith) in
      let step = rw (own, ← c.edge-target.ensures.target) at (place_step l c.loop-k.k at) in
      reachable_on (system_of l) c.args.s _ c.edge-target.result.1 from step

pub loop-k-preserved : goal.loop-k-preserved
loop-k-preserved g c = let at = (goal.at.loop-k-preserved g c).In_ok-mark in
    let marks = c.in_ok-mark.ensures in
    let places = c.args.l.now.places in
    record {
      search = Searches-step marks (below g at) _ c.args.s (led_to g at) c.loop-k.invariant.search;
      read = λ j low high.
          let now = mark_at marks (below g at) (target_of (place_at places j)) in
          grind (arith, cases_eq j c.loop-k.k, c.loop-k.invariant.read j, now, c.edge-target.ensures.target, low, high);
      queue = let range = c.loop-k.auto.k in grind (arith, marks.queue, length_push {X = ℕ}, append-nil {A = ℕ});
      places = places_ahead-marks marks (below g at) places ∙ c.loop-k.invariant.places;
      visits = let range = c.loop-k.auto.k in search rules;
    }

pub returns-clause-search : goal.returns-clause-search
returns-clause-search g c = let l = c.args.l.now in
    let s = c.args.s in
    let marked = c.loop-k.self.marked.items in
    let queue = c.loop-k.self.queue.items in
    let held = c.loop-k.invariant.search in
    let read : (a : List ℕ) (t : ℕ) → Step (system_of l) s a t → IsMarked marked t = λ a t step.
    let (k, at, source, _, target) = step_at l s a t step in
    let range = (c.row-start.ensures.exactly k at).0 source in
    subst (IsMarked marked) target
    (c.loop-k.invariant.read k range.0 (omega (arith, range.1, c.loop-k-test.false))) in
    let on : Follows (Step (system_of l)) marked c.args.next queue =
    λ u v a low m r.
    let had = held.followed u v a low m r in
    let own = λ (e : s ≡ u). read a v (subst (λ w. Step (system_of l) w a v) (sym e) r) in
    grind (arith, had, contains_cases s queue u, own) in
    search (rules, held, contains_there, on)
