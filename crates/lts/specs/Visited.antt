-- The place of a transition is its index in the list of all transitions. This file defines the list of the places of
-- the transitions that were visited in a round. A visit is a read of a transition that the meter counts. This file also
-- defines the number of visits that are needed to read given transitions, some of which may already have been visited.
use Rattle.std.specs.Prelude.{◌≡◌, ◌↔◌, ℕ, ◌+◌, ◌-◌, ◌/◌, ◌%◌, ◌<◌, ◌==◌, Bool, not, cond, List, length, map, Contains}
use Rattle.std.specs.Prelude.{slice_index_or}
use Rattle.std.specs.List.{All, IsDistinct, list_any, filter, sum_by, range_with_len}
use Rattle.std.specs.Int.{bit_at}
use Rattle.lts.specs.Lts.{Triple, place_at}
use Rattle.lts.specs.Meter.{Counts}

-- `AreVisited` holds if each visited place is the index of a transition of the system, and no place occurs twice in the
-- list `visited`.
pub record AreVisited (places : List Triple) (visited : List ℕ) : Type 0 where
  pub below : All (λ k. k < length places) visited
  pub once : IsDistinct (λ j k. j == k) visited

-- The place of a transition is its index in the list of all transitions, and a visit is a read of a transition that the
-- meter counts. The counts of the meter were `old` at an earlier time, and are `new` now. `HasVisited` holds if all
-- three of the following conditions hold. First, the list `visited` contains places of transitions, and contains no
-- place twice. Second, the number of visits that the meter has counted since the earlier time is the length of
-- `visited`. Third, the meter has counted no round since then.
pub record HasVisited (places : List Triple) (old new : Counts) (visited : List ℕ) : Type 0 where
  pub are : AreVisited places visited
  pub rounds : new.rounds ≡ old.rounds
  pub visits : new.visits ≡ old.visits + length visited

-- Returns whether the transition at the place (index) k was visited, which means that k is in the list `visited`.
abbrev pub is_visited : List ℕ → ℕ → Bool
is_visited visited k = list_any (λ j. k == j) visited

-- Returns the number of visits (reads that the meter counts) that are needed to read the transition at the place
-- (index) k. The number is 0 if this transition was visited before, and 1 otherwise.
abbrev pub price : List ℕ → ℕ → ℕ
price visited k = cond (is_visited visited k) 0 1

-- Returns the number of visits (reads that the meter counts) that are needed to read the transitions at the places
-- (indices) k with `from` <= k < `to`.
abbrev pub price_between : List ℕ → ℕ → ℕ → ℕ
price_between visited from to = sum_by (price visited) (range_with_len from (to - from))

-- Returns the transitions of the system whose places (indices) are not in the list `visited`.
abbrev pub remaining_of : List ℕ → List Triple → List Triple
remaining_of visited places =
    map (place_at places) (filter (λ k. not (is_visited visited k)) (range_with_len 0 (length places)))

-- `HaveBits` holds if the bit of each place (index of a transition) in `places` is 1, and every other bit is 0. The
-- bits are stored in `words`, with 64 bits in each word. This definition is private to `Visited`.
abbrev pub HaveBits : List ℕ → List ℕ → Type 0
HaveBits places words = (k : ℕ) → (bit_at (slice_index_or words (k / 64) 0) (k % 64) ≡ 1) ↔ Contains places k
