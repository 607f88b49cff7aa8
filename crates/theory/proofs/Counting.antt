-- Counts the blocks of a partition. Each block has one least state, so the number of blocks is the number of states
-- that are the least states of their blocks.
use Rattle.std.proofs.Common.{◌≡◌, ◌⊎◌, ◌↔◌, ℕ, zero, suc, ◌+◌, ◌<◌, ◌≤◌, refl, sym, ap, subst, ◌∙◌, inl, inr, arith}
use Rattle.std.proofs.lemmas.Bool.{cases_eq, cases_order}
use Rattle.theory.specs.System.{System}
use Rattle.theory.specs.declared.relation.Relation.{Relation}
use Rattle.theory.specs.Blocks.{Split, SameBlocks}
use Rattle.theory.proofs.Deciding.{same_number, not_so, both, some_below, each_below, least_to}
use Rattle.theory.proofs.Tally.{one, one_yes, one_no, tally, tally_zero, tally_suc, tally_at_most, tally_greater}
use Rattle.theory.proofs.Tally.{tally_same, tally_one_more, tally_all, tally_none}

-- `Opens` holds if the state s is the least state of its block.
abbrev Opens : (ℕ → ℕ) → ℕ → Type 0
Opens blocks s = (t : ℕ) → t < s → ¬ (blocks t ≡ blocks s)

opens_decided : (blocks : ℕ → ℕ) (s : ℕ) → Dec (Opens blocks s)
opens_decided blocks s =
    elim (each_below (λ t. ¬ (blocks t ≡ blocks s)) (λ t. not_so (same_number (blocks t) (blocks s))) s) [
      | inl f ↦ yes f
      | inr h ↦ no (λ f. h.2 (f h.0 h.1))
    ]

-- `block_count` is the number of blocks into which the partition divides the states of A.
pub block_count : System → (ℕ → ℕ) → ℕ
block_count A blocks = tally (Opens blocks) (opens_decided blocks) A.states

pub block_count_at_most : (A : System) (blocks : ℕ → ℕ) → block_count A blocks ≤ A.states
unfolding block_count
block_count_at_most A blocks = tally_at_most (Opens blocks) (opens_decided blocks) A.states

pub block_count_some : (A : System) (blocks : ℕ → ℕ) → 0 < A.states → 0 < block_count A blocks
unfolding block_count
block_count_some A blocks l =
    let h : tally (λ k. ⊥) (λ k. no (λ x. x)) A.states < tally (Opens blocks) (opens_decided blocks) A.states =
    tally_greater (λ k. ⊥) (Opens blocks) (λ k. no (λ x. x)) (opens_decided blocks) A.states
    (λ k m x. absurd x) 0 l (λ x. x)
    (λ t m. absurd (omega (arith, m))) in
    omega (arith, h)

-- Each block has a least state.
opener : (blocks : ℕ → ℕ) (s : ℕ) → (k : ℕ) × (k ≤ s) × (blocks k ≡ blocks s) × Opens blocks k
opener blocks s =
    let h : (k : ℕ) × (k ≤ s) × (blocks k ≡ blocks s) × ((j : ℕ) → j < k → ¬ (blocks j ≡ blocks s)) =
    least_to (λ k. blocks k ≡ blocks s) (λ k. same_number (blocks k) (blocks s)) s refl in
    (h.0, h.1, h.2, λ t l e. h.3 t l (e ∙ h.2))

opener_unique : (blocks : ℕ → ℕ) (s t : ℕ) → Opens blocks s → Opens blocks t → blocks s ≡ blocks t → s ≡ t
opener_unique blocks s t f g e = elim (cases_order s t) [
  | inl p ↦ p
  | inr h ↦ elim h [ inl l ↦ absurd (g s l e) | inr l ↦ absurd (f t l (sym e)) ]
]

-- A split changes nothing, or it separates two states that shared a block before the split.
pub split_cases : (rel : Relation) (A : System) (old new : ℕ → ℕ) → Split rel A old new
    → SameBlocks A old new
    ⊎ ((s : ℕ) × (s < A.states) × ((t : ℕ) × (t < A.states) × ((old s ≡ old t) × ¬ (new s ≡ new t))))
split_cases rel A old new split =
    go (some_below (λ s. (t : ℕ) × (t < A.states) × ((old s ≡ old t) × ¬ (new s ≡ new t)))
    (λ s. some_below (λ t. (old s ≡ old t) × ¬ (new s ≡ new t))
    (λ t. both (same_number (old s) (old t)) (not_so (same_number (new s) (new t)))) A.states) A.states)
  where
    together : (s t : ℕ) → ¬ ¬ (new s ≡ new t) → Dec (new s ≡ new t) → new s ≡ new t
    together s t f (yes e) = e
    together s t f (no g) = absurd (f g)

    go : Dec ((s : ℕ) × (s < A.states) × ((t : ℕ) × (t < A.states) × ((old s ≡ old t) × ¬ (new s ≡ new t))))
        → SameBlocks A old new
        ⊎ ((s : ℕ) × (s < A.states) × ((t : ℕ) × (t < A.states) × ((old s ≡ old t) × ¬ (new s ≡ new t))))
    go (yes h) = inr h
    go (no f) = inl (λ s t ls lt. (
      λ e. ((split s t ls lt).0 e).0,
      λ e. together s t (λ g. f (s, ls, (t, lt, (e, g)))) (same_number (new s) (new t)),
    ))

pub same_blocks_decided : (rel : Relation) (A : System) (old new : ℕ → ℕ) → Split rel A old new →
    Dec (SameBlocks A old new)
same_blocks_decided rel A old new split = elim (split_cases rel A old new split) [
  | inl same ↦ yes same
  | inr h ↦ no (λ same. h.2.2.1 ((same h.0 h.2.0 h.1 h.2.1).1 h.2.2.0))
]

-- Suppose that a split separates two states that shared a block before the split. Then there are more blocks after the
-- split than before.
pub parting_adds : (rel : Relation) (A : System) (old new : ℕ → ℕ) → Split rel A old new → (s t : ℕ)
    → s < A.states → t < A.states
    → old s ≡ old t → ¬ (new s ≡ new t) → block_count A old < block_count A new
unfolding block_count
parting_adds rel A old new split s t ls lt e apart = go (opens_decided old x.0) (opens_decided old y.0)
  where
    x : (k : ℕ) × (k ≤ s) × (new k ≡ new s) × Opens new k
    x = opener new s

    y : (k : ℕ) × (k ≤ t) × (new k ≡ new t) × Opens new k
    y = opener new t

    lx : x.0 < A.states
    lx = omega (arith, x.1, ls)

    ly : y.0 < A.states
    ly = omega (arith, y.1, lt)

    stays : (k : ℕ) → k < A.states → Opens old k → Opens new k
    stays k l f = λ j m g. f j m ((split j k (omega (arith, m, l)) l).0 g).0

    more : (k : ℕ) → k < A.states → Opens new k → ¬ Opens old k
        → tally (Opens old) (opens_decided old) A.states < tally (Opens new) (opens_decided new) A.states
    more k l h f =
        tally_greater (Opens old) (Opens new) (opens_decided old) (opens_decided new) A.states stays k l f h

    go : Dec (Opens old x.0) → Dec (Opens old y.0)
        → tally (Opens old) (opens_decided old) A.states < tally (Opens new) (opens_decided new) A.states
    go (no f) d = more x.0 lx x.3 f
    go (yes f) (no g) = more y.0 ly y.3 g
    go (yes f) (yes g) =
        let p : old x.0 ≡ old s = ((split x.0 s lx ls).0 x.2).0 in
        let q : old y.0 ≡ old t = ((split y.0 t ly lt).0 y.2).0 in
        let same : x.0 ≡ y.0 = opener_unique old x.0 y.0 f g (p ∙ (e ∙ sym q)) in
        absurd (apart (sym x.2 ∙ (ap new same ∙ y.2)))

-- States are numbers. `Hit` holds if some state less than the number j is in the block with the ID b.
abbrev Hit : (ℕ → ℕ) → ℕ → ℕ → Type 0
Hit blocks j b = (s : ℕ) × (s < j) × (blocks s ≡ b)

hit_decided : (blocks : ℕ → ℕ) (j b : ℕ) → Dec (Hit blocks j b)
hit_decided blocks j b = some_below (λ s. blocks s ≡ b) (λ s. same_number (blocks s) b) j

module _ (blocks : ℕ → ℕ) (j : ℕ) where
  -- Suppose that the block ID of the state j is not b. Then some state less than j + 1 is in the block b if and only if
  -- some state less than j is in the block b.
  hit_other : (b : ℕ) → ¬ (b ≡ blocks j) → Hit blocks j b ↔ Hit blocks (suc j) b
  hit_other b d = (
    λ h. (h.0, omega (arith, h.1), h.2),
    λ h. elim (cases_eq h.0 j) [
      | inl e ↦ absurd (d (sym h.2 ∙ ap blocks e))
      | inr e ↦ (h.0, omega (arith, h.1, e), h.2)
    ],
  )

  hit_again : Hit blocks j (blocks j) → (b : ℕ) → Hit blocks j b ↔ Hit blocks (suc j) b
  hit_again g b = elim (cases_eq b (blocks j)) [
    | inl e ↦ (λ h. (h.0, omega (arith, h.1), h.2), λ h. subst (Hit blocks j) (sym e) g)
    | inr d ↦ hit_other b d
  ]

  -- States are numbers. Let j be a state. If j is the least state of its block, then the number of blocks that contain
  -- a state less than j + 1 exceeds the number of blocks that contain a state less than j by 1. Otherwise these two
  -- numbers are equal.
  hits_next : (m : ℕ) → blocks j < m → one (opens_decided blocks j) + tally (Hit blocks j) (hit_decided blocks j) m
      ≡ tally (Hit blocks (suc j)) (hit_decided blocks (suc j)) m
  hits_next m low = elim (hit_decided blocks j (blocks j)) [
    | yes g ↦
        let same = tally_same (Hit blocks j) (Hit blocks (suc j)) (hit_decided blocks j) (hit_decided blocks (suc j)) m
        (λ b l. hit_again g b) in
        let shut : one (opens_decided blocks j) ≡ 0 = one_no (λ f. f g.0 g.1 g.2) (opens_decided blocks j) in
        omega (arith, same, shut)
    | no g ↦ let more =
        tally_one_more (Hit blocks j) (Hit blocks (suc j)) (hit_decided blocks j) (hit_decided blocks (suc j)) m
        (blocks j) low g (j, omega arith, refl) (λ b l d. hit_other b d) in
        let opens : one (opens_decided blocks j) ≡ 1 = one_yes (λ t l e'. g (t, l, e')) (opens_decided blocks j) in
        omega (arith, more, opens)
  ]

hits_counted : (blocks : ℕ → ℕ) (m j : ℕ) → ((s : ℕ) → s < j → blocks s < m)
    → tally (Opens blocks) (opens_decided blocks) j ≡ tally (Hit blocks j) (hit_decided blocks j) m
hits_counted blocks m zero within =
    tally_zero (Opens blocks) (opens_decided blocks)
    ∙ sym (tally_none (Hit blocks 0) (hit_decided blocks 0) m (λ b l h. absurd (omega (arith, h.1))))
hits_counted blocks m (suc j) within =
    let before = hits_counted blocks m j (λ s l. within s (omega (arith, l))) in
    let next = hits_next blocks j m (within j (omega arith)) in
    omega (arith, tally_suc (Opens blocks) (opens_decided blocks) j, before, next)

-- If the block IDs are exactly the numbers less than m, there are m blocks.
pub numbered_count : (A : System) (blocks : ℕ → ℕ) (m : ℕ) → ((s : ℕ) → s < A.states → blocks s < m)
    → ((b : ℕ) → b < m → (s : ℕ) × (s < A.states) × (blocks s ≡ b)) → block_count A blocks ≡ m
unfolding block_count
numbered_count A blocks m within used =
    hits_counted blocks m A.states within
    ∙ tally_all (Hit blocks A.states) (hit_decided blocks A.states) m used
