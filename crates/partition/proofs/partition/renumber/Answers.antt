use Rattle.std.proofs.{Common.slice_index, Common.arith, Common.rules, lemmas.List.get_or_read}
use Rattle.partition.proofs.BlockLemmas.{Renumbered-more}
use Rattle.partition.proofs.partition.renumber.Goals as goal

pub loop-s-preserved : goal.loop-s-preserved
loop-s-preserved c =
    let up = c.loop-s.invariant in
    let was = get_or_read _ _ c.index.result.now (up.room c.loop-s.s c.loop-s-test.true) c.index.ensures 0 in
    rw c.in_ok-push.ensures.items (Renumbered-more up c.loop-s-test.true
    (search (rules, was, c.if-index-eq0.branch)) c.index-in-loop-s.ensures)

pub from_blocks-requires : goal.from_blocks-requires
from_blocks-requires c =
    let up = c.loop-s.invariant in
    record {
      some = grind arith;
      few = grind (arith, c.loop-s.auto.s-end);
      below = λ t h. grind (arith, up.kept t, up.known (slice_index c.args.blocks.now t));
      used = λ v h. grind (arith, up.used v h);
      in_order = grind (arith, up.in_order);
    }
