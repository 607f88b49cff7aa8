-- Lemmas about the rounds of refinement and the visits (reads of transitions) that a meter counts. The lemmas prove
-- that the functions of this crate stay within the bounds of their contracts.
use Rattle.std.proofs.Common.{rules, ◌≡◌, ℕ, ◌+◌, ◌*◌, ◌≤◌, Result, Ok, Err, length, ap, arith}
use Rattle.std.proofs.lemmas.List.{length-append, length-map}
use Rattle.theory.specs.Union.{union_of}
use Rattle.lts.specs.{Meter.Counts, Meter.IsFresh, Meter.Costs, Meter.on_ok, Lts.Grouped, Lts.system_of}
use Rattle.quotient.specs.Visits.{StaysWithin, quotient_passes, union_passes}

-- A visit is a read of a transition that the meter counts. Suppose that the meter has counted nothing before. Suppose
-- that a minimisation makes r rounds of refinement, each of which makes as many visits as there are transitions, and
-- that r is at most the number of states. Suppose that the minimisation then makes at most two passes over the
-- transitions. Then the numbers of rounds and visits are within the bounds for a minimisation (`StaysWithin`).
pub minimised_keeps : {T E : Type 0} {old one at : Counts} (states k r : ℕ) (result : Result T E) → IsFresh old →
    r ≤ states → Costs old one r (r * k) (r * k) → Costs one at 0 0 (quotient_passes * k) →
    StaysWithin states k quotient_passes at (on_ok result (at.rounds * k))
minimised_keeps states k r (Ok x) fresh low turns build = search rules
minimised_keeps states k r (Err e) fresh low turns build = search rules

-- A comparison first builds the union of two systems, and then refines the partition of the union. The following lemmas
-- prove bounds on the number of visits (reads of transitions that the meter counts) of both steps together.
module _ (a b u : Grouped) (same : system_of u ≡ union_of (system_of a) (system_of b)) (old mid at : Counts)
    (fresh : IsFresh old)
    (union : Costs old mid 0 (length a.places + length b.places) (length a.places + length b.places)) (r : ℕ)
    (low : r ≤ u.states) where
  -- `both` is the number of transitions of both systems together.
  abbrev pub both : ℕ
  both = length a.places + length b.places

  all : r * length u.places ≡ r * both
  all = ap (λ m. r * m) places
    where
      places : length u.places ≡ length a.places + length b.places
      places = let e = ap (λ s. length s.transitions) same in search (rules, e, length-map, length-append)

  -- The numbers of rounds and visits (reads of transitions that the meter counts) of a comparison are within the bounds
  -- for a comparison (`StaysWithin`). This is true even if the refinement fails.
  pub compared_keeps : (visits least : ℕ) → Costs mid at r visits (r * length u.places) → least ≤ both + visits →
      StaysWithin (a.states + b.states) both union_passes at least
  compared_keeps visits least turns more =
      let few : r ≤ a.states + b.states = omega (arith, low, ap (λ s. s.states) same) in search (rules, few, all)

  -- Suppose that the refinement succeeds after r rounds, and that both systems together have m transitions. Then the
  -- comparison has made exactly (r + 1) * m visits (reads of transitions that the meter counts).
  pub rounds_keep : Costs mid at r (r * length u.places) (r * length u.places) →
      StaysWithin (a.states + b.states) both union_passes at ((at.rounds + union_passes) * both)
  rounds_keep turns =
      search (rules, at.rounds, fresh.no_rounds, union.rounds, turns.rounds, compared_keeps, u.places, all)
