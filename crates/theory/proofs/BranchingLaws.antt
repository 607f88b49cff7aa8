-- Lemmas about splitting a partition by branching signatures. Blocks are closed under silent paths (`Kept`) if every
-- silent path that begins and ends in a block stays in this block.
use Rattle.std.proofs.Common.{◌≡◌, ◌⊎◌, ℕ, ◌<◌, List, [], ◌∷◌, Bool, true, false, ◌&&◌, refl, sym, inl, inr, ◌∙◌}
use Rattle.std.specs.Bool.{Decides, nat_eq}
use Rattle.std.specs.Str.{bytes_eq}
use Rattle.std.proofs.lemmas.Bool.Decides.{Decides-eqb, Decides-and, not_from_Decides}
use Rattle.std.proofs.lemmas.Slice.Eq.{bytes_eq-Decides}
use Rattle.theory.specs.System.{System, IsSystem, Step, Internal, Along, Leads, Silent, internal}
use Rattle.theory.specs.Bisimulation.{IsBisimulation, BranchingMatches}
use Rattle.theory.specs.declared.relation.Relation.TheVariants.{Branching}
use Rattle.theory.specs.Blocks.{Inert, Signature, SameSignature, Split, Kept, Stable, Share, OneBlock}
use Rattle.theory.proofs.Paths.{leads_here, leads_step, leads_append, leads_on, leads_answered, leads_keeps, leads_map}
use Rattle.theory.proofs.Paths.{step_below, silent_below}

module _ (A : System) (blocks : ℕ → ℕ) where
  -- If a path of inert steps leads from the state s to the state t, then s and t share a block.
  pub inert_same : (s t : ℕ) → Leads (Inert A blocks) s t → blocks t ≡ blocks s
  inert_same s t path = leads_keeps (Inert A blocks) (λ x. blocks x ≡ blocks s) (λ x y r h. r.1 ∙ h) s t path refl

  -- If a path of inert steps leads from the state s to the state t, then a silent path leads from s to t.
  pub inert_silent : (s t : ℕ) → Leads (Inert A blocks) s t → Silent A s t
  inert_silent = leads_map (Inert A blocks) (Internal A) (λ x y r. r.0)

  -- Suppose that the blocks are closed under silent paths (`Kept`). If a silent path leads from the state s to a state
  -- t in the same block, then a path of inert steps leads from s to t.
  pub silent_inert :
      IsSystem A → Kept Branching A blocks →
      (s t : ℕ) → s < A.states → Silent A s t → blocks s ≡ blocks t → Leads (Inert A blocks) s t
  silent_inert system kept s t below path same = go s path.0 below path.1 same
    where
      go :
          (s : ℕ) (us : List ℕ) → s < A.states →
          Along (Internal A) s us t → blocks s ≡ blocks t → Leads (Inert A blocks) s t
      go s [] below here same = ([], here)
      go s (u ∷ us) below path same =
          let inside : blocks u ≡ blocks s = kept s u t below (leads_step (Internal A) s u path.0) (us, path.1) same in
          let rest = go u us (step_below A system s internal u path.0).1 path.1 (inside ∙ same) in
          leads_append (Inert A blocks) s u t (leads_step (Inert A blocks) s u (path.0, inside)) rest

  -- If a path of inert steps leads from the state s to the state t, then the signature of s contains every pair in the
  -- signature of t.
  pub signature_before :
      (s t : ℕ) → Leads (Inert A blocks) s t →
      (a : List ℕ) (b : ℕ) → Signature Branching A blocks t a b → Signature Branching A blocks s a b
  signature_before s t path a b can = (
    can.0,
    can.1,
    leads_append (Inert A blocks) s t can.0 path can.2,
    can.3,
    can.4,
    λ inert. can.5 (inert.0, inert.1 ∙ sym (inert_same s t path)),
  )

-- A partition with a single block is closed under silent paths: every silent path that begins and ends in the block
-- stays in the block.
pub branching_one_block : (A : System) (blocks : ℕ → ℕ) → IsSystem A → OneBlock A blocks → Kept Branching A blocks
branching_one_block A blocks system one s u t below su ut same = one u s (silent_below A system s u su below) below

-- Blocks are closed under silent paths if every silent path that begins and ends in a block stays in this block. If the
-- blocks before a split are closed under silent paths, then the blocks after the split are closed under silent paths.
pub branching_split :
    (A : System) (old new : ℕ → ℕ) →
    IsSystem A → Kept Branching A old → Split Branching A old new → Kept Branching A new
branching_split A old new system kept split s u t below su ut same =
    let u_below = silent_below A system s u su below in
    let t_below = silent_below A system u t ut u_below in
    let shared = (split s t below t_below).0 same in
    let inside : old u ≡ old s = kept s u t below su ut shared.0 in
    let first = silent_inert A old system kept s u below su (sym inside) in
    let second = silent_inert A old system kept u t u_below ut (inside ∙ shared.0) in
    (split u s u_below below).1 (
      inside,
      λ a b. (
        signature_before A old s u first a b,
        λ can. signature_before A old u t second a b ((shared.1 a b).0 can),
      ),
    )

-- Two states of A are together (`Together`) if the bisimulation R relates them to the same state of B. Suppose that the
-- blocks are closed under silent paths, and that any two states that are together share a block. Then any two states
-- that are together have equal signatures.
module _ (A B : System) (blocks : ℕ → ℕ) (R : ℕ → ℕ → Type 0) (system : IsSystem A) (kept : Kept Branching A blocks)
    (bisimulation : IsBisimulation Branching A B R) (shared : (s t x : ℕ) → R s x → R t x → blocks s ≡ blocks t) where
  -- `Together` holds if the relation R relates the states s and t of A to the same state of B.
  abbrev Together : ℕ → ℕ → Type 0
  Together s t = (x : ℕ) × R s x × R t x

  together_share : (s t : ℕ) → Together s t → blocks s ≡ blocks t
  together_share s t both = shared s t both.0 both.1 both.2

  -- If a silent path of B leads from the state x to the state y, and the bisimulation R relates the state s of A to x,
  -- then a silent path of A leads from s to some state that R relates to y.
  silent_followed : (x y s : ℕ) → Silent B x y → R s x → (t : ℕ) × Silent A s t × R t y
  silent_followed = leads_answered (Internal B) (Internal A) (λ x s. R s x) (λ x y s step related.
      elim (bisimulation.back s x related internal y step) [
        | inl rests ↦ (s, leads_here (Internal A) s, rests.1)
        | inr goes ↦ (goes.1, leads_on (Internal A) s goes.0 goes.1 goes.2 goes.3, goes.5)
      ])

  -- Suppose that a silent path of B leads from the state x to the state y. Suppose also that the bisimulation R relates
  -- the state s of A to x, and that R relates some state r of A to both x and y. Then a path of inert steps leads from
  -- s to some state that R relates to y.
  inert_followed :
      (x y r s : ℕ) → Silent B x y → R r x → R r y → R s x → (t : ℕ) × Leads (Inert A blocks) s t × R t y
  inert_followed x y r s path rx ry sx =
      let found = silent_followed x y s path sx in
      let same = shared s r x sx rx ∙ shared r found.0 y ry found.2 in
      (found.0, silent_inert A blocks system kept s found.0 (bisimulation.states s x sx).0 found.1 same, found.2)

  -- Two states of A are together (`Together`) if the relation R relates them to the same state of B. `Answered` holds
  -- if the state t matches a step with the label a from the state s to the state s'. The step is matched if a is the
  -- internal label, and a path of inert steps leads from t to some state t' such that s' and t' are together. The step
  -- is also matched if a path of inert steps leads from t to some state t1 such that s and t1 are together. A step with
  -- the label a must then lead from t1 to some state t' such that s' and t' are together.
  abbrev Answered : ℕ → ℕ → List ℕ → ℕ → Type 0
  Answered s t a s' =
      ((a ≡ internal) × (t' : ℕ) × Leads (Inert A blocks) t t' × Together s' t')
      ⊎ ((t1 t' : ℕ) × Leads (Inert A blocks) t t1 × Step A t1 a t' × Together s t1 × Together s' t')

  answered : (s t : ℕ) (a : List ℕ) (s' : ℕ) → Together s t → Step A s a s' → Answered s t a s'
  answered s t a s' both step =
      elim (bisimulation.forth s both.0 both.1 a s' step) [
        | inl rests ↦ inl (rests.0, t, leads_here (Inert A blocks) t, (both.0, rests.1, both.2))
        | inr goes ↦
            let near = inert_followed both.0 goes.0 s t goes.2 both.1 goes.4 both.2 in
            elim (bisimulation.back near.0 goes.0 near.2 a goes.1 goes.3) [
              | inl rests ↦ inl (rests.0, near.0, near.1, (goes.1, goes.5, rests.1))
              | inr back ↦
                  let below = (bisimulation.states near.0 goes.0 near.2).0 in
                  let same = shared near.0 back.0 goes.0 near.2 back.4 in
                  let further = silent_inert A blocks system kept near.0 back.0 below back.2 same in
                  inr (
                    back.0,
                    back.1,
                    leads_append (Inert A blocks) t near.0 back.0 near.1 further,
                    back.3,
                    (goes.0, goes.4, back.4),
                    (goes.1, goes.5, back.5),
                  )
            ]
      ]

  -- Suppose that the bisimulation R relates the states s and t of A to the same state of B, and that a path of inert
  -- steps leads from s to the state u. Then a path of inert steps leads from t to some state t'. The states u and t'
  -- are related by R to the same state of B.
  inert_path_followed :
      (s u t : ℕ) → Leads (Inert A blocks) s u → Together s t →
      (t' : ℕ) × Leads (Inert A blocks) t t' × Together u t'
  inert_path_followed = leads_answered (Inert A blocks) (Inert A blocks) Together (λ s s' t inert both.
      elim (answered s t internal s' both inert.0) [
        | inl stays ↦ (stays.1, stays.2, stays.3)
        | inr goes ↦
            let inside = sym (together_share s' goes.1 goes.5) ∙ inert.1 ∙ together_share s goes.0 goes.4 in
            (goes.1, leads_on (Inert A blocks) t goes.0 goes.1 goes.2 (goes.3, inside), goes.5)
      ])

  -- If the bisimulation R relates the states s and t of A to the same state of B, then the signature of t contains
  -- every pair in the signature of s.
  branching_within :
      (s t : ℕ) → Together s t →
      (a : List ℕ) (b : ℕ) → Signature Branching A blocks s a b → Signature Branching A blocks t a b
  branching_within s t both a b can =
      let near = inert_path_followed s can.0 t can.2 both in
      let at_near = sym (together_share can.0 near.0 near.2) ∙ inert_same A blocks s can.0 can.2 in
      elim (answered can.0 near.0 a can.1 near.2 can.3) [
        | inl stays ↦
            let there = together_share can.1 stays.1 stays.3 ∙ inert_same A blocks near.0 stays.1 stays.2 in
            absurd (can.5 (stays.0, sym can.4 ∙ there ∙ at_near))
        | inr goes ↦ (
          goes.0,
          goes.1,
          leads_append (Inert A blocks) t near.0 goes.0 near.1 goes.2,
          goes.3,
          sym (together_share can.1 goes.1 goes.5) ∙ can.4,
          λ inert. can.5 (inert.0, inert.1 ∙ sym (together_share s t both)),
        )
      ]

  pub branching_same : (s t x : ℕ) → R s x → R t x → SameSignature Branching A blocks s t
  branching_same s t x sx tx a b = (branching_within s t (x, sx, tx) a b, branching_within t s (x, tx, sx) a b)

-- If a boolean decides the proposition P, then P holds or P does not hold.
decided : {P : Type 0} (r : Bool) → Decides r P → P ⊎ (¬ P)
decided true decides = inl (decides.0 refl)
decided false decides = inr (not_from_Decides false decides refl)

-- It is decidable whether a step is inert. The step has the label a, and leads from a state of the block c to a state
-- of the block b.
inert_or_not : (a : List ℕ) (b c : ℕ) → ((a ≡ internal) × (b ≡ c)) ⊎ (¬ ((a ≡ internal) × (b ≡ c)))
inert_or_not a b c =
    decided (bytes_eq a internal && nat_eq b c)
    (Decides-and (bytes_eq a internal) (nat_eq b c) (bytes_eq-Decides a internal) (Decides-eqb b c))

-- A partition is stable if any two states that share a block have equal signatures. If a partition is stable, two
-- states that share a block match each other's steps.
pub branching_answers :
    (A : System) (blocks : ℕ → ℕ) → IsSystem A → Stable Branching A blocks →
    (s t : ℕ) → Share A blocks s t → BranchingMatches A A (Share A blocks) s t
branching_answers A blocks system stable s t share a s' step =
    let s'_below = (step_below A system s a s' step).1 in
    elim (inert_or_not a (blocks s') (blocks s)) [
      | inl inert ↦ inl (inert.0, (s'_below, share.1, inert.1 ∙ share.2))
      | inr other ↦
          let can : Signature Branching A blocks s a (blocks s') =
          (s, s', leads_here (Inert A blocks) s, step, refl, other) in
          let found = (stable s t share.0 share.1 share.2 a (blocks s')).0 can in
          let ends = step_below A system found.0 a found.1 found.3 in
          inr (
            found.0,
            found.1,
            inert_silent A blocks t found.0 found.2,
            found.3,
            (share.0, ends.0, share.2 ∙ sym (inert_same A blocks t found.0 found.2)),
            (s'_below, ends.1, sym found.4),
          )
    ]
