-- Lemmas about splitting a partition by signatures, for strong and for branching bisimilarity. Blocks are closed under
-- silent paths (`Kept`) if every silent path that begins and ends in a block stays in this block. For strong
-- bisimilarity, this condition is always satisfied.
use Rattle.std.proofs.Common.{◌≡◌, ◌↔◌, ℕ, refl, sym, ap, inl, inr, ◌∙◌}
use Rattle.theory.specs.System.{System, IsSystem}
use Rattle.theory.specs.Bisimulation.{Matches, IsBisimulation}
use Rattle.theory.specs.declared.relation.Relation.{Relation}
use Rattle.theory.specs.declared.relation.Relation.TheVariants.{Strong, Branching}
use Rattle.theory.specs.Blocks.{SameSignature, Split, Kept, Stable, Share, OneBlock}
use Rattle.theory.proofs.Bisimulations.{answers_weaker, OrSame, bisimulation_or_same}
use Rattle.theory.proofs.StrongLaws.{strong_same, strong_answers}
use Rattle.theory.proofs.BranchingLaws.{branching_one_block, branching_split, branching_same, branching_answers}

-- A partition with a single block is closed under silent paths: every silent path that begins and ends in the block
-- stays in the block.
pub one_block_kept : (rel : Relation) (A : System) (blocks : ℕ → ℕ) → IsSystem A → OneBlock A blocks → Kept rel A blocks
one_block_kept Strong A blocks system one = tt
one_block_kept Branching A blocks system one = branching_one_block A blocks system one

-- Blocks are closed under silent paths if every silent path that begins and ends in a block stays in this block. If the
-- blocks before a split are closed under silent paths, then the blocks after the split are closed under silent paths.
pub split_kept :
    (rel : Relation) (A : System) (old new : ℕ → ℕ) → IsSystem A → Kept rel A old → Split rel A old new → Kept rel A new
split_kept Strong A old new system kept split = tt
split_kept Branching A old new system kept split = branching_split A old new system kept split

-- Let R be a bisimulation between A and B. Two states of A are together if R relates them to the same state of B.
-- Suppose that the blocks are closed under silent paths (`Kept`), and that any two states that are together share a
-- block. Then any two states that are together have equal signatures.
pub across_same :
    (rel : Relation) (A B : System) (blocks : ℕ → ℕ) (R : ℕ → ℕ → Type 0) →
    IsSystem A → Kept rel A blocks → IsBisimulation rel A B R →
    ((s t x : ℕ) → R s x → R t x → blocks s ≡ blocks t) →
    (s t x : ℕ) → R s x → R t x → SameSignature rel A blocks s t
across_same Strong A B blocks R system kept bisimulation shared = strong_same A B blocks R bisimulation shared
across_same Branching A B blocks R system kept bisimulation shared =
    branching_same A B blocks R system kept bisimulation shared

-- Let R be a bisimulation between A and B. Two states of A are together if R relates them to the same state of B.
-- Suppose that the blocks are closed under silent paths (`Kept`), and that any two states that are together share a
-- block before a split. Then any two states that are together share a block after the split.
pub across_survives :
    (rel : Relation) (A B : System) (old new : ℕ → ℕ) (R : ℕ → ℕ → Type 0) →
    IsSystem A → Kept rel A old → Split rel A old new → IsBisimulation rel A B R →
    ((s t x : ℕ) → R s x → R t x → old s ≡ old t) →
    (s t x : ℕ) → R s x → R t x → new s ≡ new t
across_survives rel A B old new R system kept split bisimulation shared s t x sx tx =
    (split s t (bisimulation.states s x sx).0 (bisimulation.states t x tx).0).1
    (shared s t x sx tx, across_same rel A B old R system kept bisimulation shared s t x sx tx)

-- Let R be a bisimulation. Suppose that the blocks are closed under silent paths (`Kept`), and that any two states that
-- R relates share a block before a split. Then any two states that R relates share a block after the split.
pub bisimulation_survives :
    (rel : Relation) (A : System) (old new : ℕ → ℕ) (R : ℕ → ℕ → Type 0) →
    IsSystem A → Kept rel A old → Split rel A old new → IsBisimulation rel A A R →
    ((s t : ℕ) → R s t → Share A old s t) →
    (s t : ℕ) → R s t → Share A new s t
bisimulation_survives rel A old new R system kept split bisimulation inside s t related =
    let below = bisimulation.states s t related in (
      below.0,
      below.1,
      across_survives rel A A old new (OrSame A R) system kept split (bisimulation_or_same rel A R system bisimulation)
          (λ x y z xz yz. shared x z xz ∙ sym (shared y z yz)) s t t (inl related) (inr (below.1, refl)),
    )
  where
    shared : (x y : ℕ) → OrSame A R x y → old x ≡ old y
    shared x y (inl r) = (inside x y r).2
    shared x y (inr same) = ap old same.1

-- A partition is stable if any two states that share a block have equal signatures. If a partition is stable, two
-- states that share a block match each other's steps.
pub stable_answers :
    (rel : Relation) (A : System) (blocks : ℕ → ℕ) → IsSystem A → Stable rel A blocks →
    (s t : ℕ) → Share A blocks s t → Matches rel A A (Share A blocks) s t
stable_answers Strong A blocks system stable = strong_answers A blocks system stable
stable_answers Branching A blocks system stable = branching_answers A blocks system stable

-- A partition is stable if any two states that share a block have equal signatures. If a partition is stable, the
-- relation that holds for any two states in the same block is a bisimulation.
pub stable_bisimulation :
    (rel : Relation) (A : System) (blocks : ℕ → ℕ) (R : ℕ → ℕ → Type 0) →
    IsSystem A → Stable rel A blocks → ((s t : ℕ) → R s t ↔ Share A blocks s t) → IsBisimulation rel A A R
stable_bisimulation rel A blocks R system stable exact = record {
  states = λ s t related. let share = (exact s t).0 related in (share.0, share.1);
  forth = λ s t related.
      answers_weaker rel A A (Share A blocks) R (λ x y h. (exact x y).1 h) s t
      (stable_answers rel A blocks system stable s t ((exact s t).0 related));
  back = λ s t related.
      answers_weaker rel A A (Share A blocks) (λ y x. R x y) (λ y x h. (exact x y).1 (turned y x h)) t s
      (stable_answers rel A blocks system stable t s (turned s t ((exact s t).0 related)));
}
  where
    turned : (x y : ℕ) → Share A blocks x y → Share A blocks y x
    turned x y h = (h.1, h.0, sym h.2)
