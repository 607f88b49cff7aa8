-- The definitions in this file bound the numbers of rounds and visits (reads of transitions that the meter counts) that
-- the functions of this crate make. The public contracts of this crate cite these definitions.
use Rattle.std.specs.Prelude.{ℕ, ◌+◌, ◌*◌, ◌≤◌}
use Rattle.lts.specs.Meter.{Counts}

-- `quotient_passes` is the number of passes over the transitions that a minimisation makes in addition to the rounds of
-- refinement. There are two such passes. The first pass finds the reachable states, and the second pass builds the
-- quotient. Each pass visits (reads) each transition at most once.
abbrev pub quotient_passes : ℕ
quotient_passes = 2

-- `union_passes` is the number of passes over the transitions that a comparison makes in addition to the rounds of
-- refinement. There is only one such pass, which builds the union of the two systems.
abbrev pub union_passes : ℕ
union_passes = 1

-- `StaysWithin` is about a meter that has counted r rounds and v visits (reads of transitions that the meter counts).
-- It holds if all three of the following conditions hold. First, r is at most `states`. Second, v is at least `least`.
-- Third, v is at most (r + `passes`) * `transitions`.
pub record StaysWithin (states transitions passes : ℕ) (at : Counts) (least : ℕ) : Type 0 where
  pub few_rounds : at.rounds ≤ states
  pub at_least : least ≤ at.visits
  pub at_most : at.visits ≤ (at.rounds + passes) * transitions
