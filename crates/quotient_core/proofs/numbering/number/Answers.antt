use Rattle.std.proofs.Common.{rules, ◌≡◌, ◌∙◌, ℕ, ◌<◌, ◌↔◌, false, IsTrue, [], ◌∷◌, slice_index, set, replicate, sym}
use Rattle.std.proofs.Common.{subst, ap, refl, arith}
use Rattle.std.proofs.lemmas.List.{get_or_read}
use Rattle.theory.specs.System.{Reachable}
use Rattle.theory.proofs.CallerLemmas.{reachable_below, place_few, leaders_counted, leaders_few}
use Rattle.lts.specs.Lts.{system_of}
use Rattle.quotient_core.specs.declared.numbering.TheConstants.{NONE}
use Rattle.quotient_core.proofs.{Reaching.marked_below, numbering.number.Given.Over, numbering.number.Goals.In_ok-vec-2}
use Rattle.quotient_core.proofs.Quotients.{Taken-start, Taken-adds, Taken-number, Taken-class}
use Rattle.quotient_core.proofs.numbering.number.Goals as goal

pub bounds-block_ids-first : goal.bounds-block_ids-first
bounds-block_ids-first g c = let l = c.args.l.now in
    let low = marked_below l.states c.args.reached.items l.first c.requires.reached_long
    ((c.requires.reached l.first).1 ([], refl)) in
    rw (c.block_ids.ensures.block_ids, c.first.ensures, c.requires.blocks_long) low

module _ (g : Over) (c : In_ok-vec-2 g) where
  -- The block ID of the first class is the block ID of the first state.
  of_first : slice_index c.block_ids.result.now c.first.result ≡ slice_index c.args.blocks.block_ids c.args.l.now.first
  of_first = rw (c.block_ids.ensures.block_ids, c.first.ensures) refl

  set_first : set c.in_ok-vec.field-0.items (slice_index c.block_ids.result.now c.first.result) 0
      ≡ set (replicate c.args.blocks.count NONE) (slice_index c.args.blocks.block_ids c.args.l.now.first) 0
  set_first = search rules

  inside : (t : ℕ) → t < c.args.l.now.states → slice_index c.args.blocks.block_ids t < c.args.blocks.count
  inside t l = c.block_ids.ensures.blocks.below t (omega (arith, l, c.requires.blocks_long))

pub loop-s-init : goal.loop-s-init
loop-s-init g c = let at = (goal.at.loop-s-init g c).In_ok-vec-2 in
    Taken-start c.args.r (system_of c.args.l.now) (slice_index c.args.blocks.block_ids) c.states.ensures.lts.system
    c.requires.classes c.args.blocks.count (inside g at) _ (set_first g at) c.in_ok-with_capacity.ensures.items
    (c.in_ok-vec-2.ensures.items ∙ ap (λ b. b ∷ []) (of_first g at))

pub add-requires-clause-room : goal.add-requires-clause-room
add-requires-clause-room g c = let lts = c.states.ensures.lts in
    let few = place_few c.args.r (system_of c.args.l.now) lts.system c.loop-s.s in
    omega (arith, few, c.loop-s.invariant.counted lts.system, lts.in_range.few_states, c.states-s-end.ensures.value)

pub loop-s-preserved : goal.loop-s-preserved
loop-s-preserved g c =
    let at = (goal.at.loop-s-preserved g c).In_ok-vec-2 in
    let s = c.loop-s.s in
    let low : s < c.args.l.now.states = omega (arith, c.states-s-end.ensures.value) in
    let takes = rw c.block_ids-in-loop-s.ensures.block_ids at c.in_ok-add.ensures in
    let mark = get_or_read c.args.reached.items s c.index.result.now (omega (arith, low, c.requires.reached_long))
    c.index.ensures false in
    let is_reached = subst (λ m. IsTrue m ↔ Reachable (system_of c.args.l.now) s) (sym mark) (c.requires.reached s) in
    Taken-adds c.args.r (system_of c.args.l.now) (slice_index c.args.blocks.block_ids) c.states.ensures.lts.system
    c.requires.classes c.args.blocks.count (inside g at) s c.loop-s.taken _ _ is_reached low
    (omega (arith, low, c.states.ensures.lts.in_range.few_states)) c.loop-s.invariant takes

pub returns : goal.returns
returns g c = let A = system_of c.args.l.now in
    let sys = c.states.ensures.lts.system in
    let below = reachable_below A sys in
    let end : c.loop-s.s ≡ A.states = omega (arith, c.states-s-end.ensures.value) in
    let h = rw end at c.loop-s.invariant in
    let all = inside g (goal.at.returns g c).In_ok-vec-2 in
    record {
      numbered = record {
        blocks_long = c.requires.blocks_long;
        reached_long = c.requires.reached_long;
        numbers_long = h.numbers_long;
        classes_below = h.below;
        class = λ s i m. let w = (c.requires.reached s).0 m in Taken-class h s (below s w) w i (all s (below s w));
      };
      reached = c.requires.reached;
      number = λ s way. Taken-number h s (below s way) way;
      counted = rw (h.counted sys) (leaders_counted c.args.r A sys);
      few = omega (arith, h.counted sys, leaders_few c.args.r A sys);
      drops = rw (← c.labels.ensures) c.dropped.ensures;
    }
