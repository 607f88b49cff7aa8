-- Defines how a long list of pairs is divided into two halves. The list is divided at a number, which is called the
-- split point of the list (`IsCut`). To compare a pair (x, y) with the split point, the pair is represented by the
-- number x * 2^32 + y (`pair_value`). The first half contains the pairs whose numbers are less than the split point,
-- and the second half contains all other pairs. The split point depends only on the pairs of the list.
use Rattle.std.specs.Prelude.{◌≡◌, ℕ, ◌+◌, ◌*◌, ◌/◌, ◌%◌, ◌^◌, ◌<◌, ◌≤◌, List, ◌++◌}
use Rattle.std.specs.List.{Contains}

-- Returns the number that represents the pair z. This number is the first component of z times 2^32, plus the second
-- component of z.
abbrev pub pair_value : ℕ × ℕ → ℕ
pair_value z = z.0 * 2 ^ 32 + z.1

-- `Fit` holds if the second component of each pair of the list is less than 2^32. For such a list, comparing two pairs
-- gives the same result as comparing the numbers that represent these pairs (`pair_value`).
abbrev pub Fit : List (ℕ × ℕ) → Type 0
Fit list = (z : ℕ × ℕ) → Contains list z → z.1 < 2 ^ 32

-- `IsCutPoint` holds for a bit position `bit` and the numbers `low`, `high` and c if all three of the following
-- conditions hold. First, c is greater than `low` and at most `high`. Second, c is a multiple of 2^bit. Third, the
-- numbers `low`, `high` and c have the same bits at all bit positions above `bit`. If `low` and `high` represent the
-- first and the last pair of a list (`pair_value`), then c is the number at which this list is divided into two halves.
pub record IsCutPoint (bit low high c : ℕ) : Type 0 where
  pub multiple : c % 2 ^ bit ≡ 0
  pub after : low < c
  pub within : c ≤ high
  pub low_alike : low / 2 ^ (bit + 1) ≡ c / 2 ^ (bit + 1)
  pub high_alike : high / 2 ^ (bit + 1) ≡ c / 2 ^ (bit + 1)

-- `IsAlike` holds if both of the following conditions hold. First, c is a multiple of 2^bit. Second, for each pair of
-- the list, the number that represents the pair (`pair_value`) has the same bits as c at all bit positions above `bit`.
pub record IsAlike (bit : ℕ) (list : List (ℕ × ℕ)) (c : ℕ) : Type 0 where
  pub multiple : c % 2 ^ bit ≡ 0
  pub alike : (z : ℕ × ℕ) → Contains list z → pair_value z / 2 ^ (bit + 1) ≡ c / 2 ^ (bit + 1)

-- `IsUnder` holds if, for each pair of the list, the number that represents the pair (`pair_value`) is less than c.
abbrev pub IsUnder : List (ℕ × ℕ) → ℕ → Type 0
IsUnder list c = (z : ℕ × ℕ) → Contains list z → pair_value z < c

-- `IsOver` holds if, for each pair of the list, the number that represents the pair (`pair_value`) is at least c.
abbrev pub IsOver : List (ℕ × ℕ) → ℕ → Type 0
IsOver list c = (z : ℕ × ℕ) → Contains list z → c ≤ pair_value z

-- `IsCut` holds if c is the split point of the list, which is the number at which the list is divided into two halves.
-- To compare a pair (x, y) with c, the pair is represented by the number x * 2^32 + y (`pair_value`). The split point
-- is defined by two conditions. First, the list contains a pair that is less than c and a pair that is at least c, so
-- that neither half is empty. Second, there is a bit position such that c is a multiple of 2 to the power of this
-- position, and such that all pairs of the list have the same bits as c above this position (`IsAlike`).
pub record IsCut (list : List (ℕ × ℕ)) (c : ℕ) : Type 0 where
  pub bit : ℕ
  pub alike : IsAlike bit list c
  pub below : (z : ℕ × ℕ) × Contains list z × (pair_value z < c)
  pub above : (z : ℕ × ℕ) × Contains list z × (c ≤ pair_value z)

-- `IsParted` holds if the number c divides the list into the two parts `below` and `above`. To compare a pair (x, y)
-- with c, the pair is represented by the number x * 2^32 + y (`pair_value`). The list must be `below` followed by
-- `above`, all pairs in `below` must be less than c, and all pairs in `above` must be at least c.
pub record IsParted (list : List (ℕ × ℕ)) (c : ℕ) (below above : List (ℕ × ℕ)) : Type 0 where
  pub joined : list ≡ below ++ above
  pub under : IsUnder below c
  pub over : IsOver above c
