use Rattle.std.proofs.Common.{◌≢◌, length, AllPairs}
use Rattle.lts.specs.Meter.{Costs}
use Rattle.quotient_core.specs.Triples.{HasShown, rows_of}
use Rattle.quotient_core.proofs.Showing.{is_below}
use Rattle.quotient_core.proofs.triples.shown_transitions.Given as goal

abbrev pub invariant-loop-number : goal.invariant-loop-number
invariant-loop-number g l = record {
  shown : HasShown l.l l.numbering (is_below l.numbering l.number) l.shown;
  once : AllPairs (λ x y. x ≢ y) l.shown;
  visits : let read = rows_of (is_below l.numbering l.number) l.l.places in
      Costs (g.M.Meter.counted l.initial.m) (g.M.Meter.counted l.m) 0 0 (length read);
}
