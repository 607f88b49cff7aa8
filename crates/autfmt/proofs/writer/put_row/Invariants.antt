use Rattle.std.proofs.Common.{◌≡◌, ◌≤◌, ◌++◌, length, map, take}
use Rattle.autfmt.specs.{Progress.Progress, LabelTexts.from_pair}
use Rattle.autfmt.proofs.Progress.{lines_to}
use Rattle.autfmt.proofs.writer.put_row.Given as goal

abbrev pub invariant-loop-rank : goal.invariant-loop-rank
invariant-loop-rank g l = record {
  progress : Progress (g.W.Sink.written l.fn.w) (g.W.Sink.written l.w) (take l.end l.buffer)
      (take l.waiting l.fn.buffer
      ++ lines_to (map (from_pair l.words.entries.items l.row.source) l.row.transitions.now) l.rank-index);
  within : l.end ≤ length l.buffer;
  sound : g.W.Sink.failures l.w ≡ 0;
}
