use Rattle.std.proofs.Common.{◌≡◌, ◌↔◌, ◌+◌, ◌-◌, ◌≤◌, IsTrue, map, take, vec_len, vec_capacity}
use Rattle.lts.specs.{Meter.Costs, Lts.row_of}
use Rattle.inert.specs.Signed.{pair_under}
use Rattle.refine_core.specs.Rounds.{HasNewBlock}
use Rattle.refine_core.proofs.strong.read.Given as goal

abbrev pub invariant-loop-k : goal.invariant-loop-k
invariant-loop-k g l = record {
  begun : l.start ≤ l.k;
  within : l.k ≤ l.end;
  room : vec_len l.pairs + l.end ≤ vec_capacity l.pairs + l.k;
  pairs : l.pairs.items
      ≡ map (pair_under l.under.block_ids.now) (take (l.k - l.start) (row_of l.s l.under.l.now.places));
  affected : IsTrue l.affected ↔ HasNewBlock l.under.first_new l.pairs.items;
  visits : Costs (g.M.Meter.counted l.fn.m) (g.M.Meter.counted l.m) 0 (l.k - l.start) (l.k - l.start);
}

abbrev pub decreases-loop-k : goal.decreases-loop-k
decreases-loop-k g l = l.end - l.k
