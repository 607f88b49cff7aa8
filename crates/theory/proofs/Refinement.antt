-- Lemmas about repeated splits, which begin with one block. For a given system and relation, all functions from states
-- to block IDs that result from k splits describe the same partition. The blocks after the first split that changes
-- nothing are the classes of bisimilar states.
use Rattle.std.proofs.Common.{◌≡◌, ◌⊎◌, ◌↔◌, ℕ, zero, suc, ◌<◌, refl, sym, ◌∙◌, inl, inr}
use Rattle.theory.specs.System.{System, IsSystem}
use Rattle.theory.specs.Bisimulation.{IsBisimulation, Pairs, Bisimilar}
use Rattle.theory.specs.declared.relation.Relation.{Relation}
use Rattle.theory.specs.Blocks.{SameSignature, Split, SameBlocks, Stable, Kept, Share, After, ChangesNothing, Turns}
use Rattle.theory.proofs.Deciding.{same_number, below, both, decided_like, classes_exist}
use Rattle.theory.proofs.RefinementLaws.{one_block_kept, split_kept, bisimulation_survives, stable_bisimulation}
use Rattle.theory.proofs.RefinementLaws.{across_survives}
use Rattle.theory.proofs.Signatures.{same_blocks_sym, same_blocks_trans, same_signature_carried, same_signature_decided}
use Rattle.theory.proofs.Bisimulations.{bisimilar_by, bisimulations_joined}

-- It is decidable whether two states share a block.
pub share_decided : (A : System) (blocks : ℕ → ℕ) (s t : ℕ) → Dec (Share A blocks s t)
share_decided A blocks s t =
    decided_like (λ x. (x.0, x.1.0, x.1.1)) (λ x. (x.0, (x.1, x.2)))
    (both (below s A.states) (both (below t A.states) (same_number (blocks s) (blocks t))))

module _ (rel : Relation) (A : System) (sys : IsSystem A) where
  -- Every partition into blocks can be split by signatures: some partition results from the split.
  pub split_of_blocks : (old : ℕ → ℕ) → (new : ℕ → ℕ) × Split rel A old new
  split_of_blocks old = (classes.0, λ s t ls lt. classes.1 s t)
    where
      classes : (new : ℕ → ℕ) × ((s t : ℕ) → (new s ≡ new t) ↔ ((old s ≡ old t) × SameSignature rel A old s t))
      classes =
          classes_exist (λ s t. (old s ≡ old t) × SameSignature rel A old s t)
          (λ s t. both (same_number (old s) (old t)) (same_signature_decided A old rel sys s t))
          (λ s. (refl, λ a b. (λ h. h, λ h. h)))
          (λ s t h. (sym h.0, λ a b. ((h.1 a b).1, (h.1 a b).0)))
          (λ s t u h g. (h.0 ∙ g.0, λ a b. (λ x. (g.1 a b).0 ((h.1 a b).0 x), λ x. (h.1 a b).1 ((g.1 a b).1 x))))

  -- For each k, there is a partition that results from k splits.
  pub blocks_after : (k : ℕ) → (blocks : ℕ → ℕ) × After rel A k blocks
  blocks_after zero = (λ s. 0, λ s t ls lt. refl)
  blocks_after (suc k) =
      let old : (blocks : ℕ → ℕ) × After rel A k blocks = blocks_after k in
      let new : (new : ℕ → ℕ) × Split rel A old.0 new = split_of_blocks old.0 in
      (new.0, (old.0, old.1, new.1))

  -- Suppose that two functions from states to block IDs describe the same partition, and that both functions are split
  -- by signatures. Then the two resulting functions describe the same partition.
  pub same_split : (old new old' new' : ℕ → ℕ) → Split rel A old new → Split rel A old' new' → SameBlocks A old old'
      → SameBlocks A new new'
  same_split old new old' new' split split' same s t ls lt = (
    λ e.
        let h : (old' s ≡ old' t) × SameSignature rel A old' s t = (split' s t ls lt).0 e in
        (split s t ls lt).1 (
          (same s t ls lt).0 h.0,
          same_signature_carried A sys old' old (same_blocks_sym A old old' same) rel s t ls lt h.1,
        ),
    λ e.
        let h : (old s ≡ old t) × SameSignature rel A old s t = (split s t ls lt).0 e in
        (split' s t ls lt).1 ((same s t ls lt).1 h.0, same_signature_carried A sys old old' same rel s t ls lt h.1),
  )

  -- Suppose that two functions from states to block IDs both result from k splits of the partition with only one block.
  -- Then these functions describe the same partition.
  pub after_is_unique : (k : ℕ) (one two : ℕ → ℕ) → After rel A k one → After rel A k two → SameBlocks A one two
  after_is_unique zero one two h g = λ s t ls lt. (λ e. h s t ls lt, λ e. g s t ls lt)
  after_is_unique (suc k) one two h g =
      same_split h.0 one g.0 two h.2 g.2 (after_is_unique k h.0 g.0 h.1 g.1)

  -- A silent path is a path of internal steps. The blocks after k splits are closed under silent paths (`Kept`): a
  -- silent path that begins and ends in a block stays in this block.
  pub after_kept : (k : ℕ) (blocks : ℕ → ℕ) → After rel A k blocks → Kept rel A blocks
  after_kept zero blocks h = one_block_kept rel A blocks sys h
  after_kept (suc k) blocks h = split_kept rel A h.0 blocks sys (after_kept k h.0 h.1) h.2

  -- If the k-th split changes nothing, the partition after k splits is stable: states that share a block have equal
  -- signatures.
  pub after_stable : (k : ℕ) (blocks : ℕ → ℕ) → ChangesNothing rel A k → After rel A k blocks → Stable rel A blocks
  after_stable zero blocks c h = absurd c
  after_stable (suc k) blocks (old, new, after, split, same) h = λ s t ls lt e.
      let alike : SameBlocks A new blocks = after_is_unique (suc k) new blocks (old, after, split) h in
      same_signature_carried A sys old blocks (same_blocks_trans A old new blocks same alike) rel s t ls lt
      ((split s t ls lt).0 ((alike s t ls lt).0 e)).1

  -- Different functions can describe the partition after k splits, because block IDs are arbitrary. If the next split
  -- changes nothing for at least one of these functions, it changes nothing for each of these functions.
  pub no_change : (k : ℕ) (old new : ℕ → ℕ) → ChangesNothing rel A (suc k) → After rel A k old → Split rel A old new
      → SameBlocks A old new
  no_change k old new (old', new', after', split', same') after split =
      let alike : SameBlocks A old old' = after_is_unique k old old' after after' in
      same_blocks_trans A old old' new alike
      (same_blocks_trans A old' new' new same'
      (same_split old' new' old new split' split (same_blocks_sym A old old' alike)))

  -- If a bisimulation relates two states, these states share a block after any number of splits.
  pub related_share : (R : ℕ → ℕ → Type 0) → IsBisimulation rel A A R → (k : ℕ) (blocks : ℕ → ℕ) → After rel A k blocks
      → (s t : ℕ) → R s t → Share A blocks s t
  related_share R bis zero blocks h s t r =
      let at : (s < A.states) × (t < A.states) = bis.states s t r in
      (at.0, at.1, h s t at.0 at.1)
  related_share R bis (suc k) blocks h s t r =
      bisimulation_survives rel A h.0 blocks R sys (after_kept k h.0 h.1) h.2 bis (related_share R bis k h.0 h.1) s t r

  -- A partition is stable if any two states that share a block have equal signatures. If a partition is stable, two
  -- states that share a block are bisimilar.
  pub share_bisimilar : (blocks : ℕ → ℕ) → Stable rel A blocks → (s t : ℕ) → Share A blocks s t → Bisimilar rel A s A t
  share_bisimilar blocks stable =
      bisimilar_by rel A A (Share A blocks) (share_decided A blocks)
      (stable_bisimulation rel A blocks (Share A blocks) sys stable (λ s t. (λ h. h, λ h. h)))

  -- If two states are bisimilar, they share a block after any number of splits.
  pub bisimilar_share : (k : ℕ) (blocks : ℕ → ℕ) → After rel A k blocks → (s t : ℕ) → Bisimilar rel A s A t →
      Share A blocks s t
  bisimilar_share k blocks after s t (pairs, bis, r) = related_share (Pairs pairs) bis k blocks after s t r

  -- After the first split that changes nothing, two states share a block if and only if they are bisimilar.
  pub final_share : (k : ℕ) (blocks : ℕ → ℕ) → Turns rel A k → After rel A k blocks
      → (s t : ℕ) → Share A blocks s t ↔ Bisimilar rel A s A t
  final_share k blocks turns after s t = (
    share_bisimilar blocks (after_stable k blocks turns.last after) s t,
    bisimilar_share k blocks after s t,
  )

  -- If a bisimulation relates two states of A to the same state of B, these two states share a block after any number
  -- of splits.
  pub across_share : (B : System) (R : ℕ → ℕ → Type 0) → IsBisimulation rel A B R
      → (k : ℕ) (blocks : ℕ → ℕ) → After rel A k blocks → (s t x : ℕ) → R s x → R t x → blocks s ≡ blocks t
  across_share B R bis zero blocks h s t x r q = h s t (bis.states s x r).0 (bis.states t x q).0
  across_share B R bis (suc k) blocks h s t x r q =
      across_survives rel A B h.0 blocks R sys (after_kept k h.0 h.1) h.2 bis (across_share B R bis k h.0 h.1) s t x r q

  -- If two states of A are bisimilar to the same state of B, these two states share a block after any number of splits.
  pub bisimilar_to_one_share : (B : System) (k : ℕ) (blocks : ℕ → ℕ) → After rel A k blocks
      → (s t x : ℕ) → Bisimilar rel A s B x → Bisimilar rel A t B x → blocks s ≡ blocks t
  bisimilar_to_one_share B k blocks h s t x (ps, bis, r) (qs, bis', q) =
      across_share B (λ y z. Pairs ps y z ⊎ Pairs qs y z) (bisimulations_joined rel A B (Pairs ps) (Pairs qs) bis bis')
      k blocks h s t x (inl r) (inr q)
