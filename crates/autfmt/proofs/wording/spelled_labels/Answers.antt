use Rattle.std.proofs.Common.{rules, arith}
use Rattle.autfmt.proofs.Progress.{one_spelled_more}
use Rattle.autfmt.proofs.wording.spelled_labels.Goals as goal

pub loop-text-preserved : goal.loop-text-preserved
loop-text-preserved c = record {
  as_many = omega (arith, c.loop-text.invariant.as_many, c.in_ok-push.ensures.len);
  spelled = search (rules, one_spelled_more, c.in_ok-push.ensures.items);
}
