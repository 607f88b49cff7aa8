-- Defines which block IDs and signatures a split leaves unchanged. The number `first_new` is the first new block ID: a
-- block is new if its ID is at least `first_new`. If the block ID of a state is less than `first_new`, the state had
-- this block ID already before the split.
use Rattle.std.specs.Prelude.{◌≡◌, ◌↔◌, ℕ, ◌<◌, ◌≤◌, List}
use Rattle.theory.specs.System.{System, Step}
use Rattle.theory.specs.declared.relation.Relation.{Relation}
use Rattle.theory.specs.declared.relation.Relation.TheVariants.{Branching}
use Rattle.theory.specs.Blocks.{Inert, Signature, EachTwo}

-- `Refines` holds if the partition `new` refines the partition `old`: any two states that share a block of `new` also
-- share a block of `old`.
abbrev pub Refines : System → (ℕ → ℕ) → (ℕ → ℕ) → Type 0
Refines A old new = EachTwo A (λ s t. new s ≡ new t → old s ≡ old t)

-- Let `old` and `new` be the partitions before and after a split. `KeepsBlockIds` holds if each state whose block ID in
-- `new` is less than `first_new` has the same block ID in `old`.
abbrev pub KeepsBlockIds : System → (ℕ → ℕ) → (ℕ → ℕ) → ℕ → Type 0
KeepsBlockIds A old new first_new = (s : ℕ) → s < A.states → new s < first_new → new s ≡ old s

-- A block ID is new if it is at least `first_new`. `MentionsOnlyOld` holds if no block ID in the signature of the
-- state s is new. For branching bisimilarity, the block ID of s itself must not be new either.
abbrev pub MentionsOnlyOld : Relation → System → (ℕ → ℕ) → ℕ → ℕ → Type 0
MentionsOnlyOld rel A blocks first_new s = (rel ≡ Branching → blocks s < first_new)
    × ((a : List ℕ) (b : ℕ) → Signature rel A blocks s a b → b < first_new)

-- `KeepsSignature` holds if the state s has the same signature with respect to the partition `new` as with respect to
-- the partition `old`.
abbrev pub KeepsSignature : Relation → System → (ℕ → ℕ) → (ℕ → ℕ) → ℕ → Type 0
KeepsSignature rel A old new s = (a : List ℕ) (b : ℕ) → Signature rel A new s a b ↔ Signature rel A old s a b

-- `HasEmptySignature` holds if the branching signature of the state s is empty.
abbrev pub HasEmptySignature : System → (ℕ → ℕ) → ℕ → Type 0
HasEmptySignature A blocks s = (a : List ℕ) (b : ℕ) → ¬ Signature Branching A blocks s a b

-- `AreEnoughToProcess` states which states a round must process, so that every other state has the same signature as
-- before the split. The predicate `active` must hold for all of these states. A block is new if its ID is at least
-- `first_new`. The source of each step to a state of a new block must satisfy `active`. For branching bisimilarity, two
-- further kinds of states must satisfy `active`. The first kind consists of the states of new blocks. The second kind
-- consists of the states from which an inert step leads to a state that satisfies `active` and is in a block that is
-- not new. A caller may let `active` also hold for states that need not be processed for another reason, such as the
-- states of singleton blocks (blocks with one state).
pub record AreEnoughToProcess (rel : Relation) (A : System) (blocks : ℕ → ℕ) (first_new : ℕ) (active : ℕ → Type 0) :
    Type 0 where
  pub new : rel ≡ Branching → (t : ℕ) → t < A.states → first_new ≤ blocks t → active t
  pub sources : (s : ℕ) (a : List ℕ) (t : ℕ) → t < A.states → Step A s a t → first_new ≤ blocks t → active s
  pub inner : rel ≡ Branching → (s t : ℕ) → s < A.states → Inert A blocks s t → blocks t < first_new → active t
      → active s
