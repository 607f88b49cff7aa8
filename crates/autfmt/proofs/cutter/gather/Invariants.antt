use Rattle.std.proofs.Common.{◌≡◌, ℕ, ◌-◌, List, ◌++◌, length}
use Rattle.std.specs.Io.KnownBytes.{Consumes}
use Rattle.autfmt.specs.{Cutter.IsPart, declared.cutter.TheConstants.CHUNK, declared.line.TheConstants.LONGEST_LINE}
use Rattle.autfmt.proofs.cutter.gather.Given as goal

abbrev pub invariant-loop-n : goal.invariant-loop-n
invariant-loop-n g l = record {
  got : (bs : List ℕ) × Consumes (g.R.Source.rest l.initial.r) (g.R.Source.rest l.r) bs
      × (l.buffer ≡ l.initial.buffer ++ bs);
  part : IsPart l.buffer;
  sound : g.R.Source.failures l.r ≡ 0;
  room : length l.chunk ≡ CHUNK;
}

abbrev pub decreases-loop-n : goal.decreases-loop-n
decreases-loop-n g l = LONGEST_LINE - length l.buffer
