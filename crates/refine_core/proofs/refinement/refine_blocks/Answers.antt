use Rattle.std.proofs.Common.{◌≡◌, suc, ◌*◌, [], ◌∷◌, length, slice_index, None, ap, sym, ◌∙◌, inl, inr, arith, rules}
use Rattle.std.proofs.{Math.Logic.⊎_map, Math.Nat.suc-mul, lemmas.Nat.mul-le}
use Rattle.theory.specs.Blocks.{Turns}
use Rattle.lts.specs.{Meter.Costs, Lts.system_of}
use Rattle.refine_core.specs.Rounds.{AreAllActive, IsNextRound, AreRounds}
use Rattle.partition.specs.Renumberings.{WereHalved}
use Rattle.partition.proofs.CallerLemmas.{one_block}
use Rattle.refine_core.proofs.{refinement.refine_blocks.Given.Over, refinement.refine_blocks.Goals.After-count-more}
use Rattle.refine_core.proofs.refinement.refine_blocks.Goals as goal

pub loop-before-init : goal.loop-before-init
loop-before-init g c =
    let blocks = c.in_ok-blocks.ensures in
    let is = c.in_ok-round.ensures.blocks ∙ c.with_active-blocks.ensures.same in
    let one = one_block _ _ c.states.result (sym c.states.ensures.value) blocks.one in
    let on = c.refinement_goes_on.ensures.begun g.S.Signing.relation _ _ c.states.ensures.lts.system one in
    record {
      awaits = record {
        old = None;
        is = record {
          states = rw is (blocks.states ∙ c.states.ensures.value);
          follows = λ _. ap (λ b. b.first_new) is ∙ blocks.count.1;
          all = λ _. rw is c.in_ok-active.ensures.others;
          index = rw c.in_ok-round.ensures.absent tt;
        };
        later = λ some. absurd (some c.in_ok-round.ensures.absent);
        unvisited = c.in_ok-round.ensures.none;
      };
      made = rw is
          (record { rounds = 0; fewer = omega arith; past = []; were = (one, tt); underway = on; costs = omega arith });
    }

-- The active states are the states that the round processes. If some states in singleton blocks are dropped from the
-- active states, the data of the round is still ready for a new round (`Awaits`).
pub next_round-requires-clause-ready_for_round : goal.next_round-requires-clause-ready_for_round
next_round-requires-clause-ready_for_round g c =
    let a = c.loop-before.invariant.awaits in
    let r = c.loop-before.round in
    let all : r.index ≡ None → AreAllActive c.args.l.now r.blocks.block_ids c.in_ok-before.before.blocks.active
    = λ none s h. elim (a.is.all none s h) [
      | inl one ↦ ⊎_map (λ one. one) inl (c.in_ok-before.ensures.leaves.are s one)
      | inr other ↦ inr other
    ] in
    let same = c.in_ok-before.ensures.same in
    rw same (record { old = a.old; is = search (rules, a.is, all); later = a.later; unvisited = a.unvisited })

pub next_round-requires-clause-room : goal.next_round-requires-clause-room
next_round-requires-clause-room g c =
    let made = c.loop-before.invariant.made in
    let n = length c.args.l.now.places in
    let most = mul-le (suc made.rounds) n c.args.l.now.states n (omega (arith, made.fewer)) (omega arith) in
    omega (arith, suc-mul made.rounds n, most, made.costs, made.fewer, c.requires.room)

pub returns-in_err-next-clause-err : goal.returns-in_err-next-clause-err
returns-in_err-next-clause-err g c =
    let made = c.loop-before.invariant.made in
    let visits = suc-mul made.rounds (length c.args.l.now.places) in
    search (rules, made.fewer, visits, made.costs, c.next_round.ensures.costs)

-- The following lemmas assume that a round was made. Before this round, some states in singleton blocks (blocks with
-- one state) may have been dropped from the active states, which are the states that the round processes.
module _ (g : Over) (c : After-count-more g) where
  next : let old = c.loop-before.round.blocks in
      IsNextRound g.S.Signing.relation c.args.l.now old.block_ids old.count c.in_ok-next.next
  next = rw c.in_ok-before.ensures.same at c.in_ok-next.ensures.next

  were : let past = c.loop-before.round.blocks.block_ids ∷ c.loop-before.invariant.made.past in
      let of = c.in_ok-next.next.blocks.block_ids in
      AreRounds g.S.Signing.relation (system_of c.args.l.now) of past × WereHalved of past
  were = let made = c.loop-before.invariant.made in ((next.split, made.were.0), (next.halves, made.were.1))

  costs : let k = suc c.loop-before.invariant.made.rounds in let n = length c.args.l.now.places in
      Costs (g.M.Meter.counted c.args.m.now) (g.M.Meter.counted c.next_round.new.m) k (k * n) (k * n)
  costs = let made = c.loop-before.invariant.made in
      let visits = suc-mul made.rounds (length c.args.l.now.places) in
      omega (arith, visits, made.costs, c.next_round.ensures.costs, c.in_ok-next.ensures.visits)

  -- Each earlier round has split a block. Suppose that this round has split no block. Then this round is the first
  -- round that has split no block, so `Turns` holds for the number of all rounds, including this round.
  turns : c.count-more.result ≡ c.count-count.result →
      Turns g.S.Signing.relation (system_of c.args.l.now) (suc c.loop-before.invariant.made.rounds)
  turns e = c.refinement_goes_on.ensures.done _ _ _ _ _ c.states.ensures.lts.system
      c.loop-before.invariant.made.underway next.split (next.same.0 (omega (arith, e)))

pub returns-then-more-count-clause-bisimilar : goal.returns-then-more-count-clause-bisimilar
returns-then-more-count-clause-bisimilar g c =
    let d = (goal.at.returns-then-more-count-clause-bisimilar g c).After-count-more in
    rw c.into_blocks.ensures
    (c.final_blocks_are_bisimilarity.ensures _ _ _ _ c.states.ensures.lts.system (turns g d c.if-more-count.true)
    (slice_index c.loop-before.round.blocks.block_ids, c.loop-before.invariant.made.underway.after, (next g d).split))

pub returns-then-more-count-clause-few : goal.returns-then-more-count-clause-few
returns-then-more-count-clause-few g c =
    let (rounds, halves) = were g (goal.at.returns-then-more-count-clause-few g c).After-count-more in
    let states = c.in_ok-next.ensures.next.awaits.is.states in
    let last = c.in_ok-next.next.blocks.block_ids in
    let past = c.loop-before.round.blocks.block_ids ∷ c.loop-before.invariant.made.past in
    rw c.into_blocks.ensures (record {
      last = last;
      past = past;
      rounds = rounds;
      same = λ s t ls lt. (λ e. e, λ e. e);
      few = λ s low. rw states at (c.renumberings_are_few.ensures last past s halves (omega (arith, low, states)));
    })

pub returns-then-more-count-clause-turns : goal.returns-then-more-count-clause-turns
returns-then-more-count-clause-turns g c =
    let d = (goal.at.returns-then-more-count-clause-turns g c).After-count-more in
    (_, c.loop-before.invariant.made.fewer, turns g d c.if-more-count.true, costs g d)

-- Suppose that the invariant of the loop over the rounds holds before a round, and that this round has split a block.
-- Then the invariant holds after the round, too.
pub loop-before-preserved : goal.loop-before-preserved
loop-before-preserved g c =
    let d = (goal.at.loop-before-preserved g c).After-count-more in
    let made = c.loop-before.invariant.made in
    let next = next g d in
    let system = c.states.ensures.lts.system in
    let on = c.refinement_goes_on.ensures.more _ _ _ _ _ system made.underway next.split
    (λ same. c.if-more-count.false (omega (arith, next.same.1 same))) in
    let fewer = c.refinement_goes_on.ensures.below _ _ _ _ system on in
    let costs = costs g d in
    record {
      awaits = next.awaits;
      made = record { rounds = _; fewer = fewer; past = _ ∷ made.past; were = were g d; underway = on; costs = costs };
    }
