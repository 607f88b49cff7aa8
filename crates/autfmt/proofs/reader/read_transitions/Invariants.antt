use Rattle.std.proofs.Common.{◌≡◌, ℕ, ◌≤◌, List, [], ◌++◌, length}
use Rattle.std.specs.Io.KnownBytes.{Consumes}
use Rattle.theory.specs.System.{Transition}
use Rattle.autfmt.specs.{Bounds.Bounds, Cutter.Feeds, ReadSoFar.ReadSoFar, ReadSoFar.HeldSoFar}
use Rattle.autfmt.proofs.reader.read_transitions.Given as goal

abbrev pub invariant-loop-found : goal.invariant-loop-found
invariant-loop-found g l = record {
  got : (bs : List ℕ) × Consumes (g.R.Source.rest l.initial.r) (g.R.Source.rest l.r) bs ×
      ((bounds : Bounds) (given : List ℕ) → ReadSoFar bounds given l.initial.cutter l.promise [] →
      (es : List Transition) × HeldSoFar bounds l.h (given ++ bs) l.promise (l.cutter, l.held) es);
  len : length l.held.transitions ≡ l._found;
  few : length l.held.labels ≤ length l.held.transitions;
  source : Feeds (g.R.Source.rest l.r) (g.R.Source.failures l.r) l.cutter;
}
