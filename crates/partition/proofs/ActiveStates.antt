-- The active states, which are the states that a round processes, are stored in ascending order. States in singleton
-- blocks (blocks with one state) may be dropped from the active states.
use Rattle.std.proofs.Common.{rules, ◌∙◌, ℕ, ◌+◌, ◌<◌, List, [], ◌∷◌, ◌++◌, length, slice_index, Contains, arith, ◌≡◌}
use Rattle.std.proofs.{Common.◌⊎◌, Common.set, lemmas.Grind.common_steps}
use Rattle.std.proofs.lemmas.List.{Kept.AllPairs-from_increasing, get_or_default, get_or-set_same}
use Rattle.std.proofs.lemmas.{Bool.cases_lt, Map.Keys.sorted_from_strictly_increasing, Map.Views.length-le_from_below}
use Rattle.std.specs.List.Sorted.{IsStrictlyIncreasing}
use Rattle.partition.specs.{Blocks.AreActive, Blocks.IsMember, Blocks.AreSameOrNone, Splitting.IsSingleton}

-- Suppose that the list `active` is in strictly ascending order, and that all of its elements are less than s
-- (`AreActive`). If s is appended to `active`, the longer list is in strictly ascending order, and all of its elements
-- are less than s + 1.
pub rising_more : (active : List ℕ) (s : ℕ) → AreActive s active → AreActive (s + 1) (active ++ s ∷ [])
rising_more active s rises = grind (arith, common_steps)

-- Suppose that the list `active` is in strictly ascending order, and that all of its elements are less than s
-- (`AreActive`). Then all of its elements are also less than s + 1.
pub rising_later : (active : List ℕ) (s : ℕ) → AreActive s active → AreActive (s + 1) active
rising_later active s rises = search rules

-- A list contains s (`Contains`) if and only if s is the element at some index of the list (`IsMember`).
pub one_in : (xs : List ℕ) (s : ℕ) → Contains xs s → IsMember xs s
one_in xs s c = (c.0, c.1, get_or_default xs c.0 0 s c.1 ∙ c.2)

pub in_one : (xs : List ℕ) (s : ℕ) → IsMember xs s → Contains xs s
in_one xs s one = (one.0, one.1, get_or_default xs one.0 s 0 one.1 ∙ one.2)

-- If a state is an element of a list, it is still an element of the list after another state is appended.
pub one_stays : (xs : List ℕ) (y s : ℕ) → IsMember xs s → IsMember (xs ++ y ∷ []) s
one_stays xs y s one = grind (arith, common_steps)

one_last : (xs : List ℕ) (y : ℕ) → IsMember (xs ++ y ∷ []) y
one_last xs y = (length xs, grind (arith, common_steps), grind (arith, common_steps))

one_or : (xs : List ℕ) (y s : ℕ) → IsMember (xs ++ y ∷ []) s → IsMember xs s ⊎ (y ≡ s)
one_or xs y s one = grind (arith, common_steps)

-- Suppose that a list of numbers is strictly increasing, and that all of its numbers are less than `states`. Then the
-- list satisfies the conditions for a list of active states (`AreActive`). The active states are the states that a
-- round processes.
pub live_rising : (xs : List ℕ) (states : ℕ) → IsStrictlyIncreasing xs
    → ((i : ℕ) → i < length xs → slice_index xs i < states) → AreActive states xs
live_rising xs states rises below =
    let few = length-le_from_below states xs (sorted_from_strictly_increasing xs rises)
    (λ k d h. rw (get_or_default xs k d 0 h) (below k h)) in
    grind (arith, AllPairs-from_increasing xs rises)

-- The active states are the states that a round processes. The loop of `without_singletons` goes through the active
-- states, and copies some of them to the list `left`. `LeftUpTo` is the invariant of this loop after the first i active
-- states. Each state in `left` is one of these i states. Each of these i states that is not in `left` is the only state
-- of its block, and has the empty signature. The list `left` is in strictly ascending order. Each signature ID is the
-- same as before the loop, or is 0 (`AreSameOrNone`).
pub record LeftUpTo (of active : List ℕ) (i : ℕ) (old signature_ids left : List ℕ) : Type 0 where
  pub looks : AreActive (length of) active
  pub ascending : (states : ℕ) → ((j : ℕ) → j < i → slice_index active j < states) → AreActive states left
  pub were : (s : ℕ) → IsMember left s → (j : ℕ) × (j < i) × (slice_index active j ≡ s)
  pub are : (j : ℕ) → j < i → let s = slice_index active j in IsMember left s
      ⊎ (IsSingleton of s × (slice_index signature_ids s ≡ 0))
  pub each : AreSameOrNone old signature_ids

module _ {of active : List ℕ} {i : ℕ} {old signature_ids left : List ℕ}
    (more : i < length active) (up : LeftUpTo of active i old signature_ids left) where
  abbrev s : ℕ
  s = slice_index active i

  -- The loop goes through the active states, which are the states that a round processes, and copies some of them to
  -- the list `left`. Suppose that the next active state is the only state of its block. If the loop does not copy this
  -- state, and gives it the empty signature, the invariant of the loop (`LeftUpTo`) still holds.
  pub left_without : s < length signature_ids → IsSingleton of s
      → LeftUpTo of active (i + 1) old (set signature_ids s 0) left
  left_without inside alone = let zero = get_or-set_same signature_ids s 0 0 inside in record {
    looks = up.looks;
    ascending = λ states below. up.ascending states (λ j l. below j (omega (arith, l)));
    were = λ t one. grind (arith, up.were t one);
    are = search rules;
    each = grind (arith, common_steps);
  }

  -- The loop goes through the active states, which are the states that a round processes, and copies some of them to
  -- the list `left`. If the loop copies the next active state, the invariant of the loop (`LeftUpTo`) still holds.
  pub left_with : LeftUpTo of active (i + 1) old signature_ids (left ++ s ∷ [])
  left_with = record {
    looks = up.looks;
    ascending = λ states below. grind (arith, rising_more left s (up.ascending s (λ j l. grind arith)), below i);
    were = λ t one. grind (arith, one_or left s t one, up.were t);
    are = λ j low. grind (arith, cases_lt j i, up.are j, one_stays left s (slice_index active j), one_last left s);
    each = up.each;
  }
