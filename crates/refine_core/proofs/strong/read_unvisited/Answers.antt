use Rattle.std.proofs.Common.{◌<◌, ◌≤◌, rules, arith}
use Rattle.std.proofs.lemmas.Grind.{common_steps}
use Rattle.lts.proofs.CallerLemmas.{row_left, price_first, price_split, price_one_more}
use Rattle.refine_core.proofs.strong.read_unvisited.Goals as goal

pub edge-transition-requires-clause-room : goal.edge-transition-requires-clause-room
edge-transition-requires-clause-room g c =
    let visited = c.args.visited.now in
    let (start, end) = c.row-start.result in
    let k = c.loop-k.k in
    let below : k < end = omega (arith, c.loop-k-test.true, c.loop-k.auto) in
    let split = price_split visited start k end (omega (arith, c.loop-k.auto)) (omega (arith, below)) in
    let first = price_first visited k end below in
    search (rules, row_left, split, first, c.row-start.ensures, c.loop-k.invariant.visits, c.requires.room)

pub loop-k-preserved : goal.loop-k-preserved
loop-k-preserved g c =
    let i = c.loop-k.invariant in
    let (start, end) = c.row-start.result in
    let k = c.loop-k.k in
    let from : start ≤ k = omega (arith, c.loop-k.auto) in
    let below : k < end = omega (arith, c.loop-k-test.true, c.loop-k.auto) in
    let row = c.rows_follow.ensures.inside _ _ _ _ _ c.row-start.ensures from below in
    record {
      room = omega (arith, i.room, c.collect-affected.ensures.room);
      pairs = grind (arith, common_steps, row, i.pairs, c.edge-transition.ensures, c.collect-affected.ensures.pairs);
      affected = c.collect-affected.ensures.affected;
      visits = omega (arith, i.visits, c.edge-transition.ensures.visit, price_one_more c.args.visited.now start k from);
    }
