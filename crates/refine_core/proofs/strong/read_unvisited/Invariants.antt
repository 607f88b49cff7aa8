use Rattle.std.proofs.Common.{◌≡◌, ◌↔◌, ◌+◌, ◌-◌, ◌≤◌, IsTrue, map, take, vec_len, vec_capacity}
use Rattle.lts.specs.{Lts.row_of, Meter.Costs, Visited.price_between}
use Rattle.inert.specs.Signed.{pair_under}
use Rattle.refine_core.specs.Rounds.{HasNewBlock}
use Rattle.refine_core.proofs.strong.read_unvisited.Given as goal

abbrev pub invariant-loop-k : goal.invariant-loop-k
invariant-loop-k g l = record {
  room : vec_len l.pairs + l.end ≤ vec_capacity l.pairs + l.k;
  pairs : l.pairs.items
      ≡ map (pair_under l.under.block_ids.now) (take (l.k - l.start) (row_of l.s l.under.l.now.places));
  affected : IsTrue l.affected ↔ HasNewBlock l.under.first_new l.pairs.items;
  visits : let n = price_between l.visited l.start l.k in
      Costs (g.M.Meter.counted l.fn.m) (g.M.Meter.counted l.m) 0 n n;
}
