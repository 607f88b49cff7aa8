use Rattle.std.proofs.Common.{◌≡◌, ◌-◌, ◌++◌, filter, map, not, take}
use Rattle.lts.specs.{Meter.Costs, Lts.row_of}
use Rattle.quotient_core.specs.Triples.{between_numbers, is_left_out}
use Rattle.quotient_core.proofs.triples.read_row.Given as goal

abbrev pub invariant-loop-k : goal.invariant-loop-k
invariant-loop-k g l = record {
  class : l.class.items ≡ l.initial.class.items
      ++ filter (λ x. not (is_left_out l.numbering.dropped x)) (map (between_numbers l.numbering l.s)
      (take (l.k - l.start) (row_of l.s l.l.places)));
  visits : Costs (g.M.Meter.counted l.initial.m) (g.M.Meter.counted l.m) 0 (l.k - l.start) (l.k - l.start);
}
