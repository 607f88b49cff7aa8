use Rattle.std.proofs.Common.{ℕ, ◌+◌, ◌-◌, ◌<◌, arith, rules, take_all}
use Rattle.std.proofs.lemmas.Grind.{common_steps}
use Rattle.lts.specs.Lts.{row_of}
use Rattle.refine_core.proofs.strong.read.Goals as goal

pub loop-k-preserved : goal.loop-k-preserved
loop-k-preserved g c =
    let i = c.loop-k.invariant in
    let k = c.loop-k.k in
    let row = λ (k : ℕ). c.rows_follow.ensures.inside _ _ _ _ k c.row-start.ensures in
    let one = row k i.begun (omega (arith, c.loop-k-test.true)) in
    let two = row (k + 1) (omega (arith, i.begun)) (omega (arith, c.loop-k-test.true)) in
    let first = c.collect-affected.ensures.pairs in
    let added = c.collect-affected-in-loop-k.ensures in
    record {
      begun = omega (arith, i.begun);
      within = omega (arith, c.loop-k-test.true);
      room = omega (arith, i.room);
      pairs = grind
          (arith, common_steps, one, two, i.pairs, c.edge-first.ensures, first, c.edge-second.ensures, added.pairs);
      affected = added.affected;
      visits = search rules;
    }

pub returns-clause-pairs : goal.returns-clause-pairs
returns-clause-pairs g c =
    let i = c.loop-k.invariant in
    let (start, end) = c.row-start.result in
    let last : c.loop-k.k < end = omega (arith, i.within, c.if-k-end.false) in
    let row = c.rows_follow.ensures.inside _ _ _ _ _ c.row-start.ensures i.begun last in
    let all = take_all ((c.loop-k.k + 1) - start) (row_of c.args.s c.args.under.now.l.now.places)
    (omega (arith, c.row-start.ensures.count, last, c.loop-k-test.false)) in
    grind (arith, common_steps, all, row, i.pairs, c.edge-last.ensures, c.collect.ensures.pairs)
