-- Defines how the signature of a state is stored: as a list of pairs (label ID, block) in ascending order.
use Rattle.std.specs.Prelude.{◌≡◌, ◌⊎◌, ◌↔◌, ℕ, ◌<◌, List, length, slice_index}
use Rattle.std.specs.List.{Contains}
use Rattle.std.specs.List.Sorted.{IsStrictlySortedBy}
use Rattle.theory.specs.declared.relation.Relation.{Relation}
use Rattle.theory.specs.declared.relation.Relation.TheVariants.{Branching}
use Rattle.theory.specs.Blocks.{Signature}
use Rattle.lts.specs.Labels.{text_of}
use Rattle.lts.specs.Lts.{Grouped, Triple, label_of, target_of, system_of}
use Rattle.signatures.specs.Lists.{pair_cmp, list_at, AreIds, Grow}
use Rattle.partition.specs.Blocks.{IsMember}

-- `HasPair` holds if the signature of the state s modulo the relation `rel` contains the pair (a, b), where a is the
-- label with the ID k, and b is a block. A list that stores this signature (`IsSignature`) contains the pair (k, b) if
-- and only if `HasPair` holds (see the field `exactly` of `IsListOf`).
abbrev pub HasPair : Relation → Grouped → List ℕ → ℕ → ℕ → ℕ → Type 0
HasPair rel l blocks s k b =
    (k < length l.labels) × Signature rel (system_of l) (slice_index blocks) s (text_of l.labels k) b

-- The predicate `has` describes a set: the set contains the pair of a label a and a block b if and only if `has a b`
-- holds. `IsListOf` holds if the list `pairs` stores this set. Both of the following conditions must hold. First,
-- `pairs` contains the pair of a number k and a block b if and only if k is the ID of a label a for which `has a b`
-- holds. Second, the pairs are in ascending order, and each pair occurs only once.
pub record IsListOf (l : Grouped) (has : List ℕ → ℕ → Type 0) (pairs : List (ℕ × ℕ)) : Type 0 where
  pub exactly : (k b : ℕ) → Contains pairs (k, b) ↔ ((k < length l.labels) × has (text_of l.labels k) b)
  pub ascending : IsStrictlySortedBy pair_cmp pairs

-- `IsSignature` holds if a list stores the signature of the state s: the list contains exactly the pairs (label ID,
-- block) of this signature in ascending order, and each pair only once (`IsListOf`).
abbrev pub IsSignature : Relation → Grouped → List ℕ → ℕ → List (ℕ × ℕ) → Type 0
IsSignature rel l blocks s = IsListOf l (Signature rel (system_of l) (slice_index blocks) s)

-- Returns the pair of the transition e: the ID of its label and the block of its target.
abbrev pub pair_under : List ℕ → Triple → ℕ × ℕ
pair_under blocks e = (label_of e, slice_index blocks (target_of e))

-- The active states are the states that the round processes. `CachesBeside` holds if both of the following conditions
-- hold. First, the list `cached` contains the ID of an interned signature for each state. Second, if a state is not
-- active but shares a block with an active state, the list `cached` contains the ID of the branching signature of this
-- state.
pub record CachesBeside (l : Grouped) (blocks active : List ℕ) (signatures : List (List (ℕ × ℕ))) (cached : List ℕ) :
    Type 0 where
  pub states : length cached ≡ l.states
  pub each : AreIds signatures cached
  pub beside : (s t : ℕ) → s < l.states → t < l.states → slice_index blocks s ≡ slice_index blocks t → IsMember active t
      → IsMember active s ⊎ IsSignature Branching l blocks s (list_at signatures (slice_index cached s))

-- Suppose that the signature ID of a state was `old` and is now `new`. `IsIdIfChanged` holds if `shown` is the ID that
-- is used to split the block of this state. If `old` equals `new`, this ID is 0. Otherwise, this ID is `new`.
abbrev pub IsIdIfChanged : ℕ → ℕ → ℕ → Type 0
IsIdIfChanged old new shown = ((old ≡ new) × (shown ≡ 0)) ⊎ (¬ (old ≡ new) × (shown ≡ new))

-- `SignsActive` is about a round that computes the signatures of its active states, which are the states that the round
-- processes. The list of interned signatures is `before` at the beginning of the computation and `signatures` at the
-- end. The list of the cached signature IDs of all states is `old` at the beginning and `cached` at the end. The list
-- `signature_ids` contains the IDs that are used to split the blocks. `SignsActive` holds if all five of the following
-- conditions hold. First, each signature in `before` has the same ID in `signatures`. Second, `cached` contains an ID
-- for each state, and all IDs in `cached` and in `signature_ids` are IDs of interned signatures. Third, for each active
-- state, `cached` contains the ID of the branching signature of this state. Fourth, for every other state, `cached`
-- contains the same ID as `old`. Fifth, the entry of each active state in `signature_ids` depends on whether the cached
-- ID of this state has changed (`IsIdIfChanged`). If the cached ID has changed, the entry is the new ID. Otherwise, the
-- entry is the ID of the empty signature.
pub record SignsActive (l : Grouped) (blocks active : List ℕ) (before signatures : List (List (ℕ × ℕ)))
    (old cached signature_ids : List ℕ) : Type 0 where
  pub grow : Grow before signatures
  pub states : length cached ≡ l.states
  pub each : AreIds signatures cached
  pub signed : (s : ℕ) → IsMember active s
      → IsSignature Branching l blocks s (list_at signatures (slice_index cached s))
  pub still : (s : ℕ) → IsMember active s ⊎ (slice_index cached s ≡ slice_index old s)
  pub ids : AreIds signatures signature_ids
  pub changed : (s : ℕ) → IsMember active s
      → IsIdIfChanged (slice_index old s) (slice_index cached s) (slice_index signature_ids s)
