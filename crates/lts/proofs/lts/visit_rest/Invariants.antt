use Rattle.std.proofs.Common.{◌≡◌, ◌+◌}
use Rattle.lts.proofs.lts.visit_rest.Given as goal

abbrev pub invariant-loop-k : goal.invariant-loop-k
invariant-loop-k g l = record {
  rounds : (g.M.Meter.counted l.m).rounds ≡ (g.M.Meter.counted l.initial.m).rounds;
  visits : (g.M.Meter.counted l.m).visits ≡ l.before + l.k;
}
