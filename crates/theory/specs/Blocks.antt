-- Partition refinement by signatures (Blom and Orzan 2005). A partition is a function from states to block IDs: two
-- states are in the same block if they have the same block ID. A split (`Split`) divides each block by the signatures
-- of its states. Inert steps are defined by van Glabbeek and Weijland (1996).
use Rattle.std.specs.Prelude.{◌≡◌, ◌↔◌, ℕ, zero, suc, ◌<◌, ◌≤◌, List}
use Rattle.theory.specs.System.{System, Step, Internal, Silent, Leads, internal}
use Rattle.theory.specs.declared.relation.Relation.{Relation}
use Rattle.theory.specs.declared.relation.Relation.TheVariants.{Strong, Branching}

-- `Inert` holds if an inert step leads from the state s to the state t: the step is internal, and s and t are in the
-- same block.
abbrev pub Inert : System → (ℕ → ℕ) → ℕ → ℕ → Type 0
Inert A blocks s t = Internal A s t × (blocks t ≡ blocks s)

-- `Signature` holds if the signature of the state s contains the pair (a, b) of a label and a block. For strong
-- bisimilarity, this means that a step with the label a leads from s to a state in b. For branching bisimilarity, this
-- means that a step with the label a leads from some state u to a state in b. The state s must reach u by a path of
-- inert steps, and the step from u must not be inert.
abbrev pub Signature : Relation → System → (ℕ → ℕ) → ℕ → List ℕ → ℕ → Type 0
Signature Strong A blocks s a b = (t : ℕ) × Step A s a t × (blocks t ≡ b)
Signature Branching A blocks s a b =
    (u t : ℕ) × Leads (Inert A blocks) s u × Step A u a t × (blocks t ≡ b) × ¬ ((a ≡ internal) × (b ≡ blocks s))

-- `SameSignature` holds if the states s and t have equal signatures.
abbrev pub SameSignature : Relation → System → (ℕ → ℕ) → ℕ → ℕ → Type 0
SameSignature rel A blocks s t = (a : List ℕ) (b : ℕ) → Signature rel A blocks s a b ↔ Signature rel A blocks t a b

-- `EachTwo` holds if P holds for any two states of A.
abbrev pub EachTwo : System → (ℕ → ℕ → Type 0) → Type 0
EachTwo A P = (s t : ℕ) → s < A.states → t < A.states → P s t

-- `Split` holds if `new` results from splitting `old` by signatures: two states share a block of `new` if and only if
-- they share a block of `old` and have equal signatures with respect to `old`.
abbrev pub Split : Relation → System → (ℕ → ℕ) → (ℕ → ℕ) → Type 0
Split rel A old new = EachTwo A (λ s t. (new s ≡ new t) ↔ ((old s ≡ old t) × SameSignature rel A old s t))

-- `SameBlocks` holds if the functions `old` and `new` describe the same partition: two states share a block of `new` if
-- and only if they share a block of `old`.
abbrev pub SameBlocks : System → (ℕ → ℕ) → (ℕ → ℕ) → Type 0
SameBlocks A old new = EachTwo A (λ s t. (new s ≡ new t) ↔ (old s ≡ old t))

-- `Stable` holds if any two states that share a block have equal signatures.
abbrev pub Stable : Relation → System → (ℕ → ℕ) → Type 0
Stable rel A blocks = EachTwo A (λ s t. blocks s ≡ blocks t → SameSignature rel A blocks s t)

-- For branching bisimilarity, `Kept` holds if the blocks are closed under silent paths, which are paths of internal
-- steps. This means that, if a silent path begins and ends in a block, all states of the path are in this block. For
-- strong bisimilarity, `Kept` always holds.
abbrev pub Kept : Relation → System → (ℕ → ℕ) → Type 0
Kept Strong A blocks = Unit {0}
Kept Branching A blocks =
    (s u t : ℕ) → s < A.states → Silent A s u → Silent A u t → blocks s ≡ blocks t → blocks u ≡ blocks s

-- `Share` holds if s and t are states of A and share a block.
abbrev pub Share : System → (ℕ → ℕ) → ℕ → ℕ → Type 0
Share A blocks s t = (s < A.states) × (t < A.states) × (blocks s ≡ blocks t)

-- `OneBlock` holds if the partition has only one block, which contains all states of A.
abbrev pub OneBlock : System → (ℕ → ℕ) → Type 0
OneBlock A blocks = EachTwo A (λ s t. blocks s ≡ blocks t)

-- `After` holds if `blocks` is the partition after k splits. The partition before the first split has only one block.
abbrev pub After : Relation → System → ℕ → (ℕ → ℕ) → Type 0
After rel A zero blocks = OneBlock A blocks
After rel A (suc k) blocks = (old : ℕ → ℕ) × After rel A k old × Split rel A old blocks

-- `ChangesNothing` holds if the k-th split changes nothing: the partition is the same before and after this split.
abbrev pub ChangesNothing : Relation → System → ℕ → Type 0
ChangesNothing rel A zero = ⊥
ChangesNothing rel A (suc k) = (old new : ℕ → ℕ) × After rel A k old × Split rel A old new × SameBlocks A old new

-- `Turns` holds if refinement makes k splits: the k-th split is the first split that changes nothing.
pub record Turns (rel : Relation) (A : System) (k : ℕ) : Type 0 where
  pub last : ChangesNothing rel A k
  pub least : (j : ℕ) → j < k → ¬ ChangesNothing rel A j

-- `Underway` holds if refinement is in progress after k splits. This means that both of the following conditions hold.
-- First, `blocks` is the partition after k splits. Second, each of these splits has changed something.
pub record Underway (rel : Relation) (A : System) (k : ℕ) (blocks : ℕ → ℕ) : Type 0 where
  pub after : After rel A k blocks
  pub changed : (j : ℕ) → j ≤ k → ¬ ChangesNothing rel A j
