-- It is decidable whether a signature contains a pair, and whether two signatures are equal. Whether two states have
-- equal signatures depends only on the partition, and not on the block IDs.
use Rattle.std.proofs.Common.{◌≡◌, ℕ, ◌<◌, List, [], ◌∷◌, Contains, refl, sym, subst, subst₂, ◌∙◌}
use Rattle.theory.specs.System.{System, IsSystem, Transition, Step, Along, Leads, internal}
use Rattle.theory.specs.declared.relation.Relation.{Relation}
use Rattle.theory.specs.declared.relation.Relation.TheVariants.{Strong, Branching}
use Rattle.theory.specs.Blocks.{Inert, Signature, SameSignature, SameBlocks}
use Rattle.theory.proofs.Deciding.{same_number, same_bytes, not_so, both, implied, decided_like, some_in, each_in}
use Rattle.theory.proofs.Paths.{step_below}
use Rattle.theory.proofs.Closure.{leads_decided}

pub same_blocks_sym : (A : System) (one two : ℕ → ℕ) → SameBlocks A one two → SameBlocks A two one
same_blocks_sym A one two h s t ls lt = ((h s t ls lt).1, (h s t ls lt).0)

pub same_blocks_trans : (A : System) (one two three : ℕ → ℕ) → SameBlocks A one two → SameBlocks A two three →
    SameBlocks A one three
same_blocks_trans A one two three h g s t ls lt =
    (λ e. (h s t ls lt).0 ((g s t ls lt).0 e), λ e. (g s t ls lt).1 ((h s t ls lt).1 e))

-- An inert step is an internal step within a block. Suppose that two functions describe the same partition. If a path
-- consists of inert steps for one function, it consists of inert steps for the other function.
inert_carried : (A : System) → IsSystem A → (one two : ℕ → ℕ) → SameBlocks A one two
    → (us : List ℕ) (s t : ℕ) → s < A.states
    → Along (Inert A two) s us t → Along (Inert A one) s us t
inert_carried A sys one two same [] s t ls h = h
inert_carried A sys one two same (u ∷ us) s t ls h =
    let lu : u < A.states = (step_below A sys s internal u h.0.0).1 in
    ((h.0.0, (same u s lu ls).0 h.0.1), inert_carried A sys one two same us u t lu h.1)

module _ (A : System) (sys : IsSystem A) (one two : ℕ → ℕ) (same : SameBlocks A one two) where
  strong_carried : (s t : ℕ) → s < A.states → t < A.states → SameSignature Strong A one s t
      → (a : List ℕ) (b : ℕ) → Signature Strong A two s a b → Signature Strong A two t a b
  strong_carried s t ls lt sig a b h =
      let g : Signature Strong A one t a (one h.0) = (sig a (one h.0)).0 (h.0, h.1, refl) in
      let le : h.0 < A.states = (step_below A sys s a h.0 h.1).1 in
      let lg : g.0 < A.states = (step_below A sys t a g.0 g.1).1 in
      (g.0, g.1, (same g.0 h.0 lg le).1 g.2 ∙ h.2)

  branching_carried : (s t : ℕ) → s < A.states → t < A.states → SameSignature Branching A one s t
      → (a : List ℕ) (b : ℕ) → Signature Branching A two s a b → Signature Branching A two t a b
  branching_carried s t ls lt sig a b h =
      let le : h.1 < A.states = (step_below A sys h.0 a h.1 h.3).1 in
      let p : Signature Branching A one s a (one h.1) = (
        h.0,
        h.1,
        (h.2.0, inert_carried A sys one two same h.2.0 s h.0 ls h.2.1),
        h.3,
        refl,
        λ x. h.5 (x.0, sym h.4 ∙ (same h.1 s le ls).1 x.1),
      ) in
      let g : Signature Branching A one t a (one h.1) = (sig a (one h.1)).0 p in
      let lg : g.1 < A.states = (step_below A sys g.0 a g.1 g.3).1 in (
        g.0,
        g.1,
        (g.2.0, inert_carried A sys two one (same_blocks_sym A one two same) g.2.0 t g.0 lt g.2.1),
        g.3,
        (same g.1 h.1 lg le).1 g.4 ∙ h.4,
        λ x. g.5 (x.0, (same h.1 t le lt).0 (h.4 ∙ x.1)),
      )

  signature_carried : (rel : Relation) (s t : ℕ) → s < A.states → t < A.states → SameSignature rel A one s t
      → (a : List ℕ) (b : ℕ) → Signature rel A two s a b → Signature rel A two t a b
  signature_carried Strong = strong_carried
  signature_carried Branching = branching_carried

  -- Suppose that two functions describe the same partition. If two states have equal signatures for one function, they
  -- have equal signatures for the other function.
  pub same_signature_carried : (rel : Relation) (s t : ℕ) → s < A.states → t < A.states
      → SameSignature rel A one s t → SameSignature rel A two s t
  same_signature_carried rel s t ls lt sig a b = (
    signature_carried rel s t ls lt sig a b,
    signature_carried rel t s lt ls (λ c d. ((sig c d).1, (sig c d).0)) a b,
  )

-- Suppose that a signature contains the pair of the label a and the block b. Then some transition has the label a and
-- leads to the block b.
signature_stands : (rel : Relation) (A : System) (blocks : ℕ → ℕ) (s : ℕ) (a : List ℕ) (b : ℕ)
    → Signature rel A blocks s a b
    → (e : Transition) × Contains A.transitions e × ((e.label ≡ a) × (blocks e.target ≡ b))
signature_stands Strong A blocks s a b h = (record { source = s; label = a; target = h.0 }, h.1, (refl, h.2))
signature_stands Branching A blocks s a b h = (record { source = h.0; label = a; target = h.1 }, h.3, (refl, h.4))

-- If a transition of A has the source s, the label a and the target t, then A has a step from s to t with the label a.
step_stands : (A : System) (e : Transition) (s : ℕ) (a : List ℕ) (t : ℕ) → Contains A.transitions e
    → e.source ≡ s → e.label ≡ a → e.target ≡ t → Step A s a t
step_stands A e s a t c p q r =
    subst (λ z. Contains A.transitions (record { source = s; label = a; target = z })) r
    (subst (λ y. Contains A.transitions (record { source = s; label = y; target = e.target })) q
    (subst (λ x. Contains A.transitions (record { source = x; label = e.label; target = e.target })) p c))

module _ (A : System) (blocks : ℕ → ℕ) where
  -- If P is decidable, it is decidable whether some transition with the label a leads from a state with the property P
  -- to the block b.
  leaving_decided : (P : ℕ → Type 0) → ((u : ℕ) → Dec (P u)) → (a : List ℕ) (b : ℕ)
      → Dec ((e : Transition) × Contains A.transitions e × (P e.source × ((e.label ≡ a) × (blocks e.target ≡ b))))
  leaving_decided P d a b =
      some_in (λ e. P e.source × ((e.label ≡ a) × (blocks e.target ≡ b)))
      (λ e. both (d e.source) (both (same_bytes e.label a) (same_number (blocks e.target) b))) A.transitions

  step_decided : (s : ℕ) (a : List ℕ) (t : ℕ) → Dec (Step A s a t)
  step_decided s a t =
      decided_like (λ h. step_stands A h.0 s a t h.1 h.2.0 h.2.1.0 h.2.1.1)
      (λ step. (record { source = s; label = a; target = t }, step, (refl, (refl, refl))))
      (some_in (λ e. (e.source ≡ s) × ((e.label ≡ a) × (e.target ≡ t)))
      (λ e. both (same_number e.source s) (both (same_bytes e.label a) (same_number e.target t))) A.transitions)

  inert_decided : (s t : ℕ) → Dec (Inert A blocks s t)
  inert_decided s t = both (step_decided s internal t) (same_number (blocks t) (blocks s))

  inert_leads_decided : IsSystem A → (s t : ℕ) → Dec (Leads (Inert A blocks) s t)
  inert_leads_decided sys =
      leads_decided (Inert A blocks) A.states inert_decided (λ s t h. (step_below A sys s internal t h.0).1)

  pub signature_decided : (rel : Relation) → IsSystem A → (s : ℕ) (a : List ℕ) (b : ℕ) →
      Dec (Signature rel A blocks s a b)
  signature_decided Strong sys s a b =
      decided_like (λ h. (h.0.target, step_stands A h.0 s a h.0.target h.1 h.2.0 h.2.1.0 refl, h.2.1.1))
      (λ h. (record { source = s; label = a; target = h.0 }, h.1, (refl, (refl, h.2))))
      (leaving_decided (λ u. u ≡ s) (λ u. same_number u s) a b)
  signature_decided Branching sys s a b =
      decided_like
      (λ h. (
        h.0.0.source,
        h.0.0.target,
        h.0.2.0,
        step_stands A h.0.0 h.0.0.source a h.0.0.target h.0.1 refl h.0.2.1.0 refl,
        h.0.2.1.1,
        h.1,
      ))
      (λ h. ((record { source = h.0; label = a; target = h.1 }, h.3, (h.2, (refl, h.4))), h.5))
      (both (leaving_decided (Leads (Inert A blocks) s) (inert_leads_decided sys s) a b)
      (not_so (both (same_bytes a internal) (same_number b (blocks s)))))

  -- It is decidable whether the signature of the state t contains every pair in the signature of the state s.
  nested_decided : (rel : Relation) → IsSystem A → (s t : ℕ)
      → Dec ((a : List ℕ) (b : ℕ) → Signature rel A blocks s a b → Signature rel A blocks t a b)
  nested_decided rel sys s t =
      decided_like
      (λ f a b g.
      let w = signature_stands rel A blocks s a b g in
      subst₂ (Signature rel A blocks t) w.2.0 w.2.1
      (f w.0 w.1 (subst₂ (Signature rel A blocks s) (sym w.2.0) (sym w.2.1) g)))
      (λ f e c. f e.label (blocks e.target))
      (each_in (λ e. Signature rel A blocks s e.label (blocks e.target) →
      Signature rel A blocks t e.label (blocks e.target))
      (λ e. implied (signature_decided rel sys s e.label (blocks e.target)) (signature_decided rel sys t e.label
      (blocks e.target)))
      A.transitions)

  pub same_signature_decided : (rel : Relation) → IsSystem A → (s t : ℕ) → Dec (SameSignature rel A blocks s t)
  same_signature_decided rel sys s t =
      decided_like (λ h a b. (h.0 a b, h.1 a b)) (λ h. (λ a b. (h a b).0, λ a b. (h a b).1))
      (both (nested_decided rel sys s t) (nested_decided rel sys t s))
