use Rattle.std.proofs.Common.{◌≡◌, ℕ, ◌≤◌, List, length}
use Rattle.std.specs.Io.KnownBytes.{Consumes}
use Rattle.autfmt.specs.{Cutter.Feeds, HideReadSoFar.HideReadSoFar}
use Rattle.autfmt.proofs.hide_reader.read_labels.Given as goal

abbrev pub invariant-loop-found : goal.invariant-loop-found
invariant-loop-found g l = record {
  got : (bs : List ℕ) × Consumes (g.R.Source.rest l.initial.r) (g.R.Source.rest l.r) bs ×
      (H : List (List ℕ)) × HideReadSoFar bs l.cutter H l.hidden × (length H ≡ l.found);
  few : length l.hidden ≤ l.found;
  source : Feeds (g.R.Source.rest l.r) (g.R.Source.failures l.r) l.cutter;
}
