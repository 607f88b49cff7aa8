-- A meter counts the rounds of a partition refinement, and the visits. A visit is a call of `Lts::edge`, which reads
-- one transition. This file defines the two counts of a meter, and how calls increase these counts.
use Rattle.std.specs.Prelude.{◌≡◌, ℕ, ◌+◌, ◌*◌, ◌^◌, ◌<◌, ◌≤◌, Result, Ok, Err}

-- `Counts` consists of the two counts of a meter: the number of rounds that were begun, and the number of visits (reads
-- of transitions that the meter counts).
pub record Counts : Type 0 where
  pub rounds : ℕ
  pub visits : ℕ

-- `IsFresh` holds if the meter has counted no round and no visit (read of a transition).
pub record IsFresh (at : Counts) : Type 0 where
  pub no_rounds : at.rounds ≡ 0
  pub no_visits : at.visits ≡ 0

-- `HasRoomFor` holds if a meter with the counts `at` can count `rounds` more rounds and `visits` more visits (reads of
-- transitions that the meter counts) without overflow.
pub record HasRoomFor (at : Counts) (rounds visits : ℕ) : Type 0 where
  pub for_rounds : at.rounds + rounds < 2 ^ 128
  pub for_visits : at.visits + visits < 2 ^ 128

-- Let `old` and `new` be the counts of a meter at two points in time. `Costs` holds if the meter has counted exactly
-- `made` rounds in between. The number of visits (reads of transitions that the meter counts) in between must be at
-- least `least` and at most `most`.
pub record Costs (old new : Counts) (made least most : ℕ) : Type 0 where
  pub rounds : new.rounds ≡ old.rounds + made
  pub at_least : old.visits + least ≤ new.visits
  pub at_most : new.visits ≤ old.visits + most

-- Let `old` and `new` be the counts of a meter at two points in time. `CostsUpTo` holds if the meter has counted at
-- most `rounds` rounds in between. The number of visits (reads of transitions that the meter counts) in between must be
-- at most `price` times the number of these rounds.
abbrev pub CostsUpTo : Counts → Counts → ℕ → ℕ → Type 0
CostsUpTo old new rounds price = (r : ℕ) × (r ≤ rounds) × Costs old new r 0 (r * price)

-- Returns the number n if the result is `Ok`, and 0 if the result is `Err`.
abbrev pub on_ok : {T E : Type 0} → Result T E → ℕ → ℕ
on_ok (Ok x) n = n
on_ok (Err e) n = 0

-- `Visits` holds if the meter counted no round and at most `most` visits (reads of transitions that the meter counts)
-- during a call. If the call succeeded, the meter must have counted at least `least` visits.
abbrev pub Visits : {M T E : Type 0} → (M → Counts) → M → M → Result T E → ℕ → ℕ → Type 0
Visits counted old new result least most = Costs (counted old) (counted new) 0 (on_ok result least) most
