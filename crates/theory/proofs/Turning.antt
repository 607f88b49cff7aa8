-- Refinement ends, because each split that changes something increases the number of blocks. It follows that
-- bisimilarity is an equivalence relation and is decidable, because the blocks after the last split are the classes of
-- bisimilar states.
use Rattle.std.proofs.Common.{◌↔◌, ℕ, zero, suc, ◌+◌, ◌<◌, ◌≤◌, refl, sym, subst, ◌∙◌, inl, inr, arith}
use Rattle.std.proofs.lemmas.Bool.{cases_eq, cases_lt}
use Rattle.theory.specs.System.{System, IsSystem}
use Rattle.theory.specs.Bisimulation.{Bisimilar}
use Rattle.theory.specs.declared.relation.Relation.{Relation}
use Rattle.theory.specs.Blocks.{OneBlock, Split, SameBlocks, Share, After, ChangesNothing, Turns, Underway}
use Rattle.theory.proofs.Deciding.{decided_like}
use Rattle.theory.proofs.Refinement.{split_of_blocks, blocks_after, no_change, share_decided, final_share}
use Rattle.theory.proofs.Refinement.{bisimilar_to_one_share}
use Rattle.theory.proofs.Counting.{block_count, block_count_at_most, block_count_some, split_cases, same_blocks_decided}
use Rattle.theory.proofs.Counting.{parting_adds}

-- `Grown` holds if both of the following conditions hold. First, each of the first k splits has changed something, and
-- `blocks` is the partition after these splits (`Underway`). Second, this partition has more than k blocks.
record Grown (rel : Relation) (A : System) (k : ℕ) (blocks : ℕ → ℕ) : Type 0 where
  pub underway : Underway rel A k blocks
  pub many : k < block_count A blocks

-- Suppose that there are more than k blocks after the first k splits (`Grown`). Then k is less than the number of
-- states.
grown_below : (rel : Relation) (A : System) (k : ℕ) (blocks : ℕ → ℕ) → Grown rel A k blocks → k < A.states
grown_below rel A k blocks h = omega (arith, h.many, block_count_at_most A blocks)

module _ (rel : Relation) (A : System) (sys : IsSystem A) where
  -- If the partition has only one block, then it is the partition before the first split. So refinement is in progress
  -- after 0 splits (`Underway`).
  pub underway_begun : (blocks : ℕ → ℕ) → OneBlock A blocks → Underway rel A 0 blocks
  underway_begun blocks one = record {
    after = one;
    changed = λ j l. elim (cases_eq j 0) [
      | inl e ↦ λ c. subst (ChangesNothing rel A) e c
      | inr d ↦ absurd (omega (arith, l, d))
    ];
  }

  grown_begun : (blocks : ℕ → ℕ) → OneBlock A blocks → Grown rel A 0 blocks
  grown_begun blocks one =
      record { underway = underway_begun blocks one; many = block_count_some A blocks (omega (arith, sys.first)) }

  -- Refinement is in progress after k splits if each of the first k splits has changed something (`Underway`). If
  -- refinement is in progress after k splits, and the next split changes something, then refinement is in progress
  -- after k + 1 splits.
  pub underway_more : (k : ℕ) (old new : ℕ → ℕ) → Underway rel A k old → Split rel A old new → ¬ SameBlocks A old new
      → Underway rel A (suc k) new
  underway_more k old new h split apart = record {
    after = (old, h.after, split);
    changed = λ j l c. elim (cases_eq j (suc k)) [
      | inl e ↦ apart (no_change rel A sys k old new (subst (ChangesNothing rel A) e c) h.after split)
      | inr d ↦ h.changed j (omega (arith, l, d)) c
    ];
  }

  grown_more : (k : ℕ) (old new : ℕ → ℕ) → Grown rel A k old → Split rel A old new → ¬ SameBlocks A old new →
      Grown rel A (suc k) new
  grown_more k old new h split apart = record {
    underway = underway_more k old new h.underway split apart;
    many = elim (split_cases rel A old new split) [
      | inl same ↦ absurd (apart same)
      | inr p ↦ omega (arith, h.many, parting_adds rel A old new split p.0 p.2.0 p.1 p.2.1 p.2.2.0 p.2.2.1)
    ];
  }

  -- Refinement is in progress after k splits if each of the first k splits has changed something (`Underway`). If
  -- refinement is in progress after k splits, and the next split changes nothing, then the next split is the last one.
  -- So refinement makes exactly k + 1 splits.
  pub underway_done : (k : ℕ) (old new : ℕ → ℕ) → Underway rel A k old → Split rel A old new → SameBlocks A old new
      → Turns rel A (suc k)
  underway_done k old new h split same =
      record { last = (old, new, h.after, split, same); least = λ j l. h.changed j (omega (arith, l)) }

  -- Suppose that each of the first k splits has changed something, and that there are more than k blocks (`Grown`).
  -- Then refinement ends, and the total number of splits is at most the number of states. The number `left` bounds the
  -- number of further splits.
  turns_from : (left k : ℕ) (blocks : ℕ → ℕ) → Grown rel A k blocks → A.states ≤ k + left
      → (m : ℕ) × Turns rel A m × (m ≤ A.states)
  turns_from zero k old h room = absurd (omega (arith, room, grown_below rel A k old h))
  turns_from (suc left) k old h room =
      let new : (new : ℕ → ℕ) × Split rel A old new = split_of_blocks rel A sys old in
      elim (same_blocks_decided rel A old new.0 new.1) [
        | yes same ↦ (suc k, underway_done k old new.0 h.underway new.1 same, grown_below rel A k old h)
        | no apart ↦ turns_from left (suc k) new.0 (grown_more k old new.0 h new.1 apart) (omega (arith, room))
      ]

  -- There is a first split that changes nothing. The number of splits up to and including this split is at most the
  -- number of states.
  pub turns_found : (m : ℕ) × Turns rel A m × (m ≤ A.states)
  turns_found = turns_from A.states 0 (λ s. 0) (grown_begun (λ s. 0) (λ s t ls lt. refl)) (omega arith)

  -- If each of the first k splits has changed something, then k is less than the number of states.
  pub underway_below : (k : ℕ) (blocks : ℕ → ℕ) → Underway rel A k blocks → k < A.states
  underway_below k blocks h =
      elim (cases_lt k turns_found.0) [
        | inl l ↦ omega (arith, l, turns_found.2)
        | inr o ↦ absurd (h.changed turns_found.0 o turns_found.1.last)
      ]

-- If `Bisimilar` holds for the number s in the system A and some state of the system B, then s is a state of A.
bisimilar_below : (rel : Relation) (A B : System) (s x : ℕ) → Bisimilar rel A s B x → s < A.states
bisimilar_below rel A B s x (pairs, bisimulation, related) = (bisimulation.states s x related).0

module _ (rel : Relation) (A : System) (sys : IsSystem A) where
  -- There is a partition in which two states share a block if and only if they are bisimilar.
  pub bisimilarity_shares : (blocks : ℕ → ℕ) × ((s t : ℕ) → Share A blocks s t ↔ Bisimilar rel A s A t)
  bisimilarity_shares =
      let turns : (m : ℕ) × Turns rel A m × (m ≤ A.states) = turns_found rel A sys in
      let after : (blocks : ℕ → ℕ) × After rel A turns.0 blocks = blocks_after rel A sys turns.0 in
      (after.0, final_share rel A sys turns.0 after.0 turns.1 after.1)

  -- Bisimilarity of the states of a system is reflexive, symmetric and transitive.
  pub bisimilar_refl : (s : ℕ) → s < A.states → Bisimilar rel A s A s
  bisimilar_refl s l = let h = bisimilarity_shares in (h.1 s s).0 (l, l, refl)

  pub bisimilar_sym : (s t : ℕ) → Bisimilar rel A s A t → Bisimilar rel A t A s
  bisimilar_sym s t b =
      let h = bisimilarity_shares in
      let x : Share A h.0 s t = (h.1 s t).1 b in
      (h.1 t s).0 (x.1, x.0, sym x.2)

  pub bisimilar_trans : (s t u : ℕ) → Bisimilar rel A s A t → Bisimilar rel A t A u → Bisimilar rel A s A u
  bisimilar_trans s t u b c =
      let h = bisimilarity_shares in
      let x : Share A h.0 s t = (h.1 s t).1 b in
      let y : Share A h.0 t u = (h.1 t u).1 c in
      (h.1 s u).0 (x.0, y.1, x.2 ∙ y.2)

  -- If two states of A are bisimilar to the same state of B, they are bisimilar to each other.
  pub bisimilar_through : (B : System) (s t x : ℕ) → Bisimilar rel A s B x → Bisimilar rel A t B x →
      Bisimilar rel A s A t
  bisimilar_through B s t x b c =
      let turns : (m : ℕ) × Turns rel A m × (m ≤ A.states) = turns_found rel A sys in
      let after : (blocks : ℕ → ℕ) × After rel A turns.0 blocks = blocks_after rel A sys turns.0 in
      (final_share rel A sys turns.0 after.0 turns.1 after.1 s t).0 (
        bisimilar_below rel A B s x b,
        bisimilar_below rel A B t x c,
        bisimilar_to_one_share rel A sys B turns.0 after.0 after.1 s t x b c,
      )

  -- It is decidable whether two states are bisimilar.
  pub bisimilar_decided : (s t : ℕ) → Dec (Bisimilar rel A s A t)
  bisimilar_decided s t =
      let h = bisimilarity_shares in
      decided_like (h.1 s t).0 (h.1 s t).1 (share_decided A h.0 s t)
