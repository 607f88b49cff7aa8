use Rattle.std.proofs.Common.{◌≡◌, ◌≤◌, length, take, vec_capacity}
use Rattle.lts.specs.{Lts.before, Meter.Costs}
use Rattle.autfmt.proofs.Rows.{RowsWait}
use Rattle.autfmt.proofs.writer.put_system.Given as goal

abbrev pub invariant-loop-source : goal.invariant-loop-source
invariant-loop-source g l = record {
  rows : RowsWait l.s (g.W.Sink.written l.fn.w) (g.W.Sink.written l.w) (take l.waiting l.buffer) l.source;
  within : l.waiting ≤ length l.buffer;
  sound : g.W.Sink.failures l.w ≡ 0;
  capacity : vec_capacity l.row ≡ vec_capacity l.fn.row;
  visits : Costs (g.M.Meter.counted l.fn.m) (g.M.Meter.counted l.m) 0 0 (before l.source l.s.places);
}
