-- Defines the union cache, which is a table of unions of two lists that were computed before. Each entry of the table
-- contains the IDs of two lists and the ID of the list that is their union.
use Rattle.std.specs.Prelude.{◌≡◌, ◌⊎◌, ◌↔◌, ℕ, ◌^◌, ◌<◌, ◌≤◌, List, length}
use Rattle.std.specs.List.{Contains}
use Rattle.signatures.specs.declared.union_cache.Union.{Union}
use Rattle.signatures.specs.Lists.{list_at}
use Rattle.signatures.specs.Cuts.{IsCut, IsParted}

-- `Unites` holds if `list` is the union of xs and ys: a pair is in `list` if and only if the pair is in xs or in ys.
abbrev pub Unites : List (ℕ × ℕ) → List (ℕ × ℕ) → List (ℕ × ℕ) → Type 0
Unites list xs ys = (z : ℕ × ℕ) → Contains list z ↔ (Contains xs z ⊎ Contains ys z)

-- `IsUnion` holds if the list with the ID i is the union of the two lists with the IDs `key.0` and `key.1`.
pub record IsUnion (lists : List (List (ℕ × ℕ))) (key : ℕ × ℕ) (i : ℕ) : Type 0 where
  pub within : i < length lists
  pub first : key.0 < length lists
  pub second : key.1 < length lists
  pub exactly : Unites (list_at lists i) (list_at lists key.0) (list_at lists key.1)

-- `AreUnions` holds if each entry of the union cache is correct. The union cache is a table of unions that were
-- computed before, and each entry contains the IDs of two lists and the ID of a third list. The entry is correct if the
-- third list is the union of the two other lists (`IsUnion`).
abbrev pub AreUnions : List (List (ℕ × ℕ)) → List ((ℕ × ℕ) × ℕ) → Type 0
AreUnions lists unions = (z : (ℕ × ℕ) × ℕ) → Contains unions z → IsUnion lists z.0 z.1

-- `IsSplit` holds if the number c divides the list with the ID k into two stored lists, whose IDs are `below` and
-- `above`. To compare a pair (x, y) with c, the pair is represented by the number x * 2^32 + y (`pair_value`). The list
-- with the ID `below` contains the pairs that are less than c, and the list with the ID `above` contains the other
-- pairs. The IDs `below` and `above` must be at most k.
pub record IsSplit (lists : List (List (ℕ × ℕ))) (k c below above : ℕ) : Type 0 where
  pub first : below ≤ k
  pub second : above ≤ k
  pub parted : IsParted (list_at lists k) c (list_at lists below) (list_at lists above)

-- `AreSplit` is about the two lists with the IDs `two.0` and `two.1`. `AreSplit` holds if both of the following
-- conditions hold. First, the number c divides each of these two lists into a lower and an upper part. The IDs of the
-- two lower parts are `below.0` and `below.1`, and the IDs of the two upper parts are `above.0` and `above.1`. Second,
-- c is the number at which the union of the two lists is divided into two halves (`IsCut`).
pub record AreSplit (lists : List (List (ℕ × ℕ))) (two : ℕ × ℕ) (c : ℕ) (below above : ℕ × ℕ) : Type 0 where
  pub first : IsSplit lists two.0 c below.0 above.0
  pub second : IsSplit lists two.1 c below.1 above.1
  pub cut : (list : List (ℕ × ℕ)) → Unites list (list_at lists two.0) (list_at lists two.1) → IsCut list c

-- `IsSplitWith` is about two lists: the list with the ID k, and the list `some`. `IsSplitWith` holds if both of the
-- following conditions hold. First, the number c divides each of these two lists into a lower and an upper part. The
-- list with the ID k has a lower part with the ID `below.0` and an upper part with the ID `above.0`. The list `some`
-- has the lower part `below.1` and the upper part `above.1`. Second, c is the number at which the union of the two
-- lists is divided into two halves (`IsCut`).
pub record IsSplitWith (lists : List (List (ℕ × ℕ))) (k : ℕ) (some : List (ℕ × ℕ)) (c : ℕ) (below above : ℕ
    × List (ℕ × ℕ)) : Type 0 where
  pub list : IsSplit lists k c below.0 above.0
  pub pairs : IsParted some c below.1 above.1
  pub cut : (list : List (ℕ × ℕ)) → Unites list some (list_at lists k) → IsCut list c

-- `union_entry` returns the data of an entry of the union cache, which is a table of unions that were computed before:
-- the IDs of two lists, and the ID of the union of these lists.
abbrev pub union_entry : Union → (ℕ × ℕ) × ℕ
union_entry u = ((u.first, u.second), u.union)

-- `IsNone` holds if the entry z states that the union of the empty list with itself is the empty list. This entry fills
-- each empty slot of the union cache, which is a table of unions that were computed before.
abbrev pub IsNone : (ℕ × ℕ) × ℕ → Type 0
IsNone z = z ≡ ((0, 0), 0)

-- `HasSlots` holds if `count`, the number of slots of the union cache, is at least 1 and less than 2^32. The union
-- cache is a hash table of unions that were computed before. If `HasSlots` holds, a hash of 32 bits can select each of
-- the slots.
pub record HasSlots (count : ℕ) : Type 0 where
  pub some : 0 < count
  pub few : count < 2 ^ 32
