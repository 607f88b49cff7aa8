-- The data of a round (`Signed`) includes the blocks, the active states, the signatures, and the predecessor index,
-- which stores the transitions that lead to each state. A round processes only the active states. Each signature is
-- interned: equal signatures are stored once and have the same ID. A split separates two states of a block if their
-- split signatures differ. The split signature of a state is empty if the signature of the state has not changed since
-- the last round, and otherwise it is the new signature. For branching bisimilarity, the signatures of all states are
-- cached from round to round. The first definitions of this file are about signatures, about the blocks of the last
-- round, and about the cache. The following definitions state what must hold for the data of a round at four times:
-- when the round begins (`Awaits`), before it computes signatures (`IsReadyToSign`), after it has computed signatures
-- (`SignsRound`), and after it has split the blocks (`IsNextRound`). They make sure that states that are not active
-- need not be processed. The last definitions are about the blocks that several rounds make.
use Rattle.std.specs.Prelude.{◌≡◌, ◌⊎◌, ◌↔◌, ℕ, ◌<◌, ◌≤◌, List, [], ◌∷◌, length, slice_index, Option, None, Some, ◌^◌}
use Rattle.std.specs.Prelude.{IfSome}
use Rattle.std.specs.List.{Contains}
use Rattle.theory.specs.declared.relation.Relation.{Relation}
use Rattle.theory.specs.declared.relation.Relation.TheVariants.{Strong, Branching}
use Rattle.theory.specs.Blocks.{Signature, Split, SameSignature, SameBlocks, OneBlock}
use Rattle.theory.specs.Unaffected.{KeepsBlockIds, MentionsOnlyOld}
use Rattle.theory.specs.System.{System}
use Rattle.lts.specs.Lts.{Grouped, system_of, row_of}
use Rattle.lts.specs.Incoming.{Entries}
use Rattle.signatures.specs.Lists.{list_at, AreIds}
use Rattle.partition.specs.Splitting.{IsSingleton}
use Rattle.partition.specs.Blocks.{RoundBlocks, InactiveHaveNone, IsMember}
use Rattle.partition.specs.Renumberings.{SplitsByHalves, renumberings}
use Rattle.inert.specs.Signed.{IsListOf, IsSignature}
use Rattle.refine_core.specs.Index.{HasIndex}

-- Returns the signature of the state s. The list `signature_ids` contains the ID of this signature at the index s, and
-- the list `signatures` contains the signatures in the order of their IDs.
abbrev pub list_of : List (List (ℕ × ℕ)) → List ℕ → ℕ → List (ℕ × ℕ)
list_of signatures signature_ids s = list_at signatures (slice_index signature_ids s)

-- `Signed` is the data of a round: the blocks, the signatures, the predecessor index, and the visited transitions. The
-- list `signatures` contains the signatures in the order of their IDs. For each state, `signature_ids` contains the ID
-- of the split signature of the state: the split separates two states of a block if their split signatures differ. For
-- each state, `cached` contains the ID of the signature that is cached from round to round. The field `index` is `None`
-- until the predecessor index is built. The list `visited` contains the places (indices in the list of all transitions)
-- of the transitions that were visited in this round. A visit is a read of a transition that the meter counts.
pub record Signed : Type 0 where
  pub blocks : RoundBlocks
  pub signatures : List (List (ℕ × ℕ))
  pub signature_ids : List ℕ
  pub cached : List ℕ
  pub index : Option Entries
  pub visited : List ℕ

-- `HaveSignatures` holds if the list `signature_ids` contains the ID of an interned signature for each state. For each
-- state that is not active (not processed by the round), the list must contain the ID of the empty signature.
pub record HaveSignatures (of active : List ℕ) (signatures : List (List (ℕ × ℕ))) (signature_ids : List ℕ) : Type 0
  where
    pub each : AreIds signatures signature_ids
    pub states : length signature_ids ≡ length of
    pub none : InactiveHaveNone active signature_ids

-- `HasNoSignatures` holds if both of the following conditions hold. First, the list `signatures` of the interned
-- signatures contains only the empty signature. Second, the list `cached` contains the ID of the empty signature for
-- each state. The list `of` contains the block ID of each state.
pub record HasNoSignatures (of : List ℕ) (signatures : List (List (ℕ × ℕ))) (cached : List ℕ) : Type 0 where
  pub only : signatures ≡ [] ∷ []
  pub states : length cached ≡ length of
  pub empty : (s : ℕ) → slice_index cached s ≡ 0

-- `Was` holds if the signature of the state s in the last round contained the pair (a, b) of a label and a block. The
-- argument `old` contains the block IDs of all states in the last round. If `old` is `None`, no round has run yet, or
-- all signatures have been discarded since the last round. If `old` is `None`, the signature in the last round is taken
-- to be empty, so `Was` is false.
abbrev pub Was : Relation → Grouped → Option (List ℕ) → ℕ → List ℕ → ℕ → Type 0
Was rel l None s a b = ⊥
Was rel l (Some old) s a b = Signature rel (system_of l) (slice_index old) s a b

-- `IsAsBefore` holds if the signature of the state s is the same as in the last round (`Was`). The list `of` contains
-- the block IDs of all states in this round, and the argument `old` contains their block IDs in the last round.
abbrev pub IsAsBefore : Relation → Grouped → Option (List ℕ) → List ℕ → ℕ → Type 0
IsAsBefore rel l old of s =
    (a : List ℕ) (b : ℕ) → Signature rel (system_of l) (slice_index of) s a b ↔ Was rel l old s a b

-- The lists `old` and `of` contain the block IDs of all states before and after a split. `IsLastSplit` holds if all
-- three of the following conditions hold. First, the blocks `of` result from splitting the blocks `old` by signatures
-- (`Split`). Second, each block ID in `old` is less than `first_new`. Third, if the block ID of a state in `of` is less
-- than `first_new`, then the state has the same block ID in `old`.
pub record IsLastSplit (rel : Relation) (l : Grouped) (old of : List ℕ) (first_new : ℕ) : Type 0 where
  pub split : Split rel (system_of l) (slice_index old) (slice_index of)
  pub below : (s : ℕ) → s < l.states → slice_index old s < first_new
  pub stays : KeepsBlockIds (system_of l) (slice_index old) (slice_index of) first_new

-- `Follows` holds if the blocks `of` result from splitting the blocks `old` of the last round (`IsLastSplit`). If `old`
-- is `None`, no round has run yet, or all signatures have been discarded since the last round. If `old` is `None` and
-- the relation is strong bisimilarity, `first_new` must be 0, so that all blocks count as new.
abbrev pub Follows : Relation → Grouped → Option (List ℕ) → List ℕ → ℕ → Type 0
Follows rel l None of first_new = rel ≡ Strong → first_new ≡ 0
Follows rel l (Some old) of first_new = IsLastSplit rel l old of first_new

-- `HasNewBlock` holds if at least one pair in the list `pairs` contains the ID of a new block. A block is new if its ID
-- is at least `first_new`.
abbrev pub HasNewBlock : ℕ → List (ℕ × ℕ) → Type 0
HasNewBlock first_new pairs = (z : ℕ × ℕ) × Contains pairs z × (first_new ≤ z.1)

-- `IsStrongSplitSignature` holds if `list` is the split signature of the state s for strong bisimilarity. A block is
-- new if its ID is at least `first_new`. If no block ID in the signature of s is new (`MentionsOnlyOld`), the signature
-- is the same as in the last round, and `list` must be empty. Otherwise, `list` must be the signature of s, and must
-- contain the ID of a new block (`HasNewBlock`).
abbrev pub IsStrongSplitSignature : Grouped → List ℕ → ℕ → ℕ → List (ℕ × ℕ) → Type 0
IsStrongSplitSignature l of first_new s list =
    ((list ≡ []) × MentionsOnlyOld Strong (system_of l) (slice_index of) first_new s)
    ⊎ (HasNewBlock first_new list × IsSignature Strong l of s list)

-- `CachesIds` holds if both of the following conditions hold. First, the list `cached` contains the ID of an interned
-- signature for each state. Second, if a state is not in a singleton block (a block with one state), `cached` contains
-- the ID of the branching signature that the state had in the last round. The argument `old` contains the block IDs of
-- all states in the last round, and the list `of` contains their block IDs in this round. If `old` is `None`, the
-- signature of each state in the last round is taken to be empty.
pub record CachesIds (l : Grouped) (of : List ℕ) (signatures : List (List (ℕ × ℕ))) (cached : List ℕ)
    (old : Option (List ℕ)) : Type 0 where
  pub states : length cached ≡ l.states
  pub signature_ids : AreIds signatures cached
  pub each : (s : ℕ) → s < l.states → IsSingleton of s
      ⊎ IsListOf l (Was Branching l old s) (list_of signatures cached s)

-- Let R be a condition on states. `OthersSatisfy` holds if each state is active (processed by the round), is in a
-- singleton block (a block with one state), or satisfies R. The argument `states` is the number of states. The list
-- `blocks` contains the block ID of each state, and the list `active` contains the active states.
abbrev pub OthersSatisfy : (ℕ → Type 0) → ℕ → List ℕ → List ℕ → Type 0
OthersSatisfy R states blocks active = (s : ℕ) → s < states → IsMember active s ⊎ IsSingleton blocks s ⊎ R s

-- `AreAllActive` holds if each state is active (processed by the round), is in a singleton block (a block with one
-- state), or has no outgoing transition. The list `blocks` contains the block ID of each state, and the list `active`
-- contains the active states.
abbrev pub AreAllActive : Grouped → List ℕ → List ℕ → Type 0
AreAllActive l = OthersSatisfy (λ s. row_of s l.places ≡ []) l.states

-- `IsAtRound` states what holds for r, the data of a round (`Signed`), when the round begins, and also when the round
-- computes signatures. The data r must contain the block ID of each state of the system `l`. The argument `old`
-- contains the block IDs of all states in the last round. The blocks of r must then result from splitting these blocks
-- (`Follows`). If `old` is `None`, no round has run yet, or all signatures have been discarded since the last round. In
-- this case, all blocks must count as new for strong bisimilarity (`first_new` is 0). If there is no predecessor index,
-- each state must be active (processed by the round), be in a singleton block, or have no outgoing transition. If there
-- is a predecessor index, it must be an index of the system `l` (`HasIndex`).
pub record IsAtRound (rel : Relation) (l : Grouped) (old : Option (List ℕ)) (r : Signed) : Type 0 where
  pub states : length r.blocks.block_ids ≡ l.states
  pub follows : Follows rel l old r.blocks.block_ids r.blocks.first_new
  pub all : r.index ≡ None → AreAllActive l r.blocks.block_ids r.blocks.active
  pub index : IfSome r.index (HasIndex rel l r.blocks.block_ids)

-- `Awaits` holds if r, the data of a round (`Signed`), is ready for a new round. The data r must satisfy `IsAtRound`.
-- The field `old` contains the block IDs of all states in the last round, or is `None` if no round has run yet. If
-- there is a predecessor index, a round must have run before, and for branching bisimilarity, the signatures of the
-- last round must be cached (`CachesIds`). No transition may have been visited in the new round (`unvisited`).
pub record Awaits (rel : Relation) (l : Grouped) (r : Signed) : Type 0 where
  pub old : Option (List ℕ)
  pub is : IsAtRound rel l old r
  pub later : ¬ (r.index ≡ None) → ¬ (old ≡ None)
      × (rel ≡ Branching → CachesIds l r.blocks.block_ids r.signatures r.cached old)
  pub unvisited : r.visited ≡ []

-- `IsReadyToSign` holds if r, the data of a round (`Signed`), is ready for computing the signatures of the active
-- states. The active states are the states that the round processes. The data r must satisfy `IsAtRound`. The field
-- `old` contains the block IDs of all states in the last round. Each state that is neither active nor in a singleton
-- block must have the same signature as in the last round. For branching bisimilarity, the signatures of the last round
-- must be cached (`CachesIds`). If `old` is `None`, the signature of each state in the last round is taken to be empty.
pub record IsReadyToSign (rel : Relation) (l : Grouped) (r : Signed) : Type 0 where
  pub old : Option (List ℕ)
  pub is : IsAtRound rel l old r
  pub others : OthersSatisfy (IsAsBefore rel l old r.blocks.block_ids) l.states r.blocks.block_ids r.blocks.active
  pub cached : rel ≡ Branching → CachesIds l r.blocks.block_ids r.signatures r.cached old

-- `MayBuildIndex` is about the step of a round that may build the predecessor index. The data of the round is p before
-- the step, and r after the step. The step must have changed neither the blocks nor the cached signature IDs. Either
-- the step must not have changed any data; or it must have discarded all interned signatures except the empty
-- signature, and r must contain an index. If r contains an index, it must be an index of the system `l` (`HasIndex`).
pub record MayBuildIndex (rel : Relation) (l : Grouped) (p r : Signed) : Type 0 where
  pub blocks : r.blocks ≡ p.blocks
  pub cached : r.cached ≡ p.cached
  pub built : (r ≡ p) ⊎ (¬ (r.index ≡ None) × (r.signatures ≡ [] ∷ []))
  pub index : IfSome r.index (HasIndex rel l r.blocks.block_ids)

-- `SignsRound` is about the step of a round that computes the signatures of the active states, which are the states
-- that the round processes. The data of the round is p before the step, and r after the step. The step must have
-- changed neither the blocks nor the predecessor index. After the step, `signature_ids` must contain the ID of an
-- interned signature for each state, and the ID of the empty signature for each state that is not active
-- (`HaveSignatures`). Suppose that two states share a block. Then `signature_ids` must contain the same ID for both
-- states if and only if their signatures are equal (`SameSignature`). For branching bisimilarity, the new signatures
-- must be cached for the next round (`CachesIds`). The last condition (`first`) is about signatures that are computed
-- as if no round had run before. For strong bisimilarity, this means that all blocks of p count as new (`first_new` is
-- 0). For branching bisimilarity, it means that the cached signature of each state in p is empty. In this case,
-- `signature_ids` must contain the ID of the signature of each active state.
pub record SignsRound (rel : Relation) (l : Grouped) (p r : Signed) : Type 0 where
  pub blocks : r.blocks ≡ p.blocks
  pub index : r.index ≡ p.index
  pub have : HaveSignatures r.blocks.block_ids r.blocks.active r.signatures r.signature_ids
  pub separates : (s t : ℕ) → s < l.states → t < l.states
      → slice_index r.blocks.block_ids s ≡ slice_index r.blocks.block_ids t
      → (slice_index r.signature_ids s ≡ slice_index r.signature_ids t)
      ↔ SameSignature rel (system_of l) (slice_index r.blocks.block_ids) s t
  pub cached : rel ≡ Branching → CachesIds l r.blocks.block_ids r.signatures r.cached (Some r.blocks.block_ids)
  pub first : (rel ≡ Strong → p.blocks.first_new ≡ 0) → (rel ≡ Branching → (s : ℕ) → slice_index p.cached s ≡ 0)
      → (s : ℕ) → IsMember r.blocks.active s
      → IsSignature rel l r.blocks.block_ids s (list_of r.signatures r.signature_ids s)

-- `IsNextRound` holds if q is the data after one round that started with the block IDs `of`. Splitting the blocks `of`
-- by signatures must result in the blocks of q (`Split`). No state may be in a larger block than before the round. If
-- the block ID of a state changes, the new block of the state must have at most half the size of the old block
-- (`SplitsByHalves`). The data q must be ready for the next round (`Awaits`). Before the round, there were `count`
-- blocks. The number of blocks must be the same before and after the round if and only if the partition is the same
-- before and after the round.
pub record IsNextRound (rel : Relation) (l : Grouped) (of : List ℕ) (count : ℕ) (q : Signed) : Type 0 where
  pub split : Split rel (system_of l) (slice_index of) (slice_index q.blocks.block_ids)
  pub halves : SplitsByHalves of q.blocks.block_ids
  pub awaits : Awaits rel l q
  pub same : (q.blocks.count ≡ count) ↔ SameBlocks (system_of l) (slice_index of) (slice_index q.blocks.block_ids)

-- `AreRounds` holds if a sequence of splits leads from the partition with only one block to the partition `now`. For
-- each split, the list `past` contains the partition before this split. The first element of `past` is the partition
-- before the last split.
abbrev pub AreRounds : Relation → System → List ℕ → List (List ℕ) → Type 0
AreRounds rel A now [] = OneBlock A (slice_index now)
AreRounds rel A now (old ∷ past) = Split rel A (slice_index old) (slice_index now) × AreRounds rel A old past

-- `RenumbersFew` holds if there is a sequence of splits with both of the following properties. First, the sequence
-- leads from the partition with only one block to a partition with the same blocks as `blocks`, but possibly with other
-- block IDs. Second, the block ID of each state changes at most log2 n times during the sequence, where n is the number
-- of states.
pub record RenumbersFew (rel : Relation) (A : System) (blocks : List ℕ) : Type 0 where
  pub last : List ℕ
  pub past : List (List ℕ)
  pub rounds : AreRounds rel A last past
  pub same : SameBlocks A (slice_index last) (slice_index blocks)
  pub few : (s : ℕ) → s < A.states → 2 ^ renumberings last past s ≤ A.states
