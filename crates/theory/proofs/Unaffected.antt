-- Lemmas about the signatures that a split leaves unchanged, and about the states that a round has to process because
-- their signatures may have changed.
use Rattle.std.proofs.Common.{◌≡◌, ◌⊎◌, ℕ, ◌<◌, ◌≤◌, List, [], ◌∷◌, Contains, refl, sym, ◌∙◌, subst, inl, inr, arith}
use Rattle.std.proofs.lemmas.Bool.{cases_eq, cases_lt}
use Rattle.theory.specs.System.{System, IsSystem, Transition, Step, Along, Leads, internal}
use Rattle.theory.specs.declared.relation.Relation.{Relation}
use Rattle.theory.specs.declared.relation.Relation.TheVariants.{Strong, Branching}
use Rattle.theory.specs.Blocks.{Inert, Signature}
use Rattle.theory.specs.Unaffected.{Refines, KeepsBlockIds, MentionsOnlyOld, KeepsSignature, HasEmptySignature}
use Rattle.theory.specs.Unaffected.{AreEnoughToProcess}
use Rattle.theory.proofs.Deciding.{both, some_in}
use Rattle.theory.proofs.Paths.{leads_here, leads_on, leads_keeps, leads_map, step_below}
use Rattle.theory.proofs.BranchingLaws.{inert_same}
use Rattle.theory.proofs.Signatures.{signature_decided}

at_least : (m n : ℕ) → Dec (m ≤ n)
at_least m n = elim (cases_lt n m) [ inl l ↦ no (λ k. absurd (omega (arith, l, k))) | inr l ↦ yes l ]

module _ (A : System) (sys : IsSystem A) (old new : ℕ → ℕ) (refines : Refines A old new) where
  -- If all steps of a path are inert after the split, they were inert before the split.
  path_was : (s u : ℕ) → Leads (Inert A new) s u → Leads (Inert A old) s u
  path_was = leads_map (Inert A new) (Inert A old) (λ x y r.
      let ends = step_below A sys x internal y r.0 in
      (r.0, refines y x ends.1 ends.0 r.1))

  -- Let X be the set of the states that the state s reaches by steps that are inert after the split. Consider all steps
  -- that lead from states in X and were inert before the split, and let Y be the set of their targets. Suppose that
  -- each state of Y shares a block with s after the split. If all steps of a path from s were inert before the split,
  -- then they are inert after the split.
  path_is : (s u : ℕ) → ((x y : ℕ) → Leads (Inert A new) s x → Inert A old x y → new y ≡ new s)
      → Leads (Inert A old) s u → Leads (Inert A new) s u
  path_is s u stays way =
      leads_keeps (Inert A old) (Leads (Inert A new) s)
      (λ x y r h. leads_on (Inert A new) s x y h (r.0, stays x y h r ∙ sym (inert_same A new s x h))) s u way
      (leads_here (Inert A new) s)

  -- Suppose that the state s reaches the state u by steps that are inert after the split, and that u has a step that
  -- was not inert before the split. Then the signature of s after the split contains the pair of this step: its label,
  -- and the block of its target after the split.
  shown_now : (s u : ℕ) (a : List ℕ) (t : ℕ) → s < A.states → Leads (Inert A new) s u → Step A u a t
      → ¬ ((a ≡ internal) × (old t ≡ old s)) → Signature Branching A new s a (new t)
  shown_now s u a t ls way step shows =
      (u, t, way, step, refl, λ e. shows (e.0, refines t s (step_below A sys u a t step).1 ls e.1))

  -- If the branching signature of a state is empty after the split, it was empty before the split.
  pub empty_before : (s : ℕ) → s < A.states → HasEmptySignature A new s → HasEmptySignature A old s
  empty_before s ls none a b (u, t, way, step, at, shows) =
      none a (new t) (shown_now s u a t ls (path_is s u stays way) step (λ e. shows (e.0, sym at ∙ e.1)))
    where
      stays : (x y : ℕ) → Leads (Inert A new) s x → Inert A old x y → new y ≡ new s
      stays x y h r = elim (cases_eq (new y) (new s)) [
        | inl e ↦ e
        | inr d ↦ absurd (none internal (new y) (x, y, h, r.0, refl, λ e. d e.1))
      ]

  -- A block ID is new if it is at least `first_new`. Suppose that no block ID in the signature of the state s is new
  -- after the split. For branching bisimilarity, suppose also that the block ID of s is not new after the split. Then
  -- the split has not changed the signature of s.
  module _ (first_new : ℕ) (keeps : KeepsBlockIds A old new first_new) (s : ℕ) (ls : s < A.states) where
    inside : MentionsOnlyOld Branching A new first_new s → (x y : ℕ) → Leads (Inert A new) s x → Inert A old x y
        → new y ≡ new s
    inside still x y h r = elim (cases_lt (new y) first_new) [
      | inl l ↦ keeps y (step_below A sys x internal y r.0).1 l ∙ r.1 ∙ inert_same A old s x (path_was s x h)
          ∙ sym (keeps s ls (still.0 refl))
      | inr l ↦
          let low = still.0 refl in
          let shown = still.1 internal (new y) (x, y, h, r.0, refl, λ e. absurd (omega (arith, e.1, l, low))) in
          absurd (omega (arith, shown, l))
    ]

    pub still_stays : (rel : Relation) → MentionsOnlyOld rel A new first_new s → KeepsSignature rel A old new s
    still_stays Strong still a b =
        let same = λ (t : ℕ) (step : Step A s a t).
        keeps t (step_below A sys s a t step).1 (still.1 a (new t) (t, step, refl)) in
        (λ (t, step, at). (t, step, sym (same t step) ∙ at), λ (t, step, at). (t, step, same t step ∙ at))
    still_stays Branching still a b = (from, to)
      where
        from : Signature Branching A new s a b → Signature Branching A old s a b
        from (u, t, way, step, at, shows) =
            let l : new t < first_new =
            subst (λ x. x < first_new) (sym at) (still.1 a b (u, t, way, step, at, shows)) in (
              u,
              t,
              path_was s u way,
              step,
              sym (keeps t (step_below A sys u a t step).1 l) ∙ at,
              λ e. shows (e.0, e.1 ∙ sym (keeps s ls (still.0 refl))),
            )

        to : Signature Branching A old s a b → Signature Branching A new s a b
        to (u, t, way, step, at, shows) =
            let can = shown_now s u a t ls (path_is s u (inside still) way) step (λ e. shows (e.0, sym at ∙ e.1)) in
            let is = keeps t (step_below A sys u a t step).1 (still.1 a (new t) can) ∙ at in
            subst (Signature Branching A new s a) is can

-- In the following lemmas, `active` is a predicate on states. The lemmas that need it suppose that `active` holds for
-- all states whose signatures may have changed (`AreEnoughToProcess`). A block ID is new if it is at least `first_new`,
-- and otherwise it is old.
module _ (A : System) (sys : IsSystem A) (blocks : ℕ → ℕ) (first_new : ℕ) (active : ℕ → Type 0) where
  -- Suppose that the state s is in an old block, which existed before the split, and that a path of inert steps leads
  -- from s to a state that satisfies `active`. Then s satisfies `active`, too.
  found_back : AreEnoughToProcess Branching A blocks first_new active → (s : ℕ) (us : List ℕ) (u : ℕ)
      → blocks s < first_new → Along (Inert A blocks) s us u → active u → active s
  found_back looks s [] u l here found = subst active (sym here) found
  found_back looks s (t ∷ us) u l (first, way) found =
      let old = subst (λ x. x < first_new) (sym first.1) l in
      let below = (step_below A sys s internal t first.0).0 in
      looks.inner refl s t below first old (found_back looks t us u old way found)

  -- Suppose that the signature of a state contains the ID of a new block. For branching bisimilarity, suppose also that
  -- the state is in an old block, which existed before the split. Then this state satisfies `active`.
  shows_new : (rel : Relation) → AreEnoughToProcess rel A blocks first_new active → (s : ℕ) (a : List ℕ) (b : ℕ)
      → (rel ≡ Branching → blocks s < first_new) → Signature rel A blocks s a b → first_new ≤ b → active s
  shows_new Strong looks s a b old (t, step, at) new =
      looks.sources s a t (step_below A sys s a t step).1 step (omega (arith, at, new))
  shows_new Branching looks s a b old (u, t, way, step, at, shows) new =
      let found = looks.sources u a t (step_below A sys u a t step).1 step (omega (arith, at, new)) in
      found_back looks s way.0 u (old refl) way.1 found

  -- `GivesNew` holds if both of the following conditions hold. First, the signature of the state s contains the pair
  -- (label, target block) of the transition e. Second, this block is new, which means that its ID is at least
  -- `first_new`.
  abbrev GivesNew : Relation → ℕ → Transition → Type 0
  GivesNew rel s e = Signature rel A blocks s e.label (blocks e.target) × (first_new ≤ blocks e.target)

  -- Each pair in the signature of a state is the pair (label, target block) of some transition.
  pair_given : (rel : Relation) (s : ℕ) (a : List ℕ) (b : ℕ) → Signature rel A blocks s a b
      → (e : Transition) × Contains A.transitions e × (e.label ≡ a) × (blocks e.target ≡ b)
  pair_given Strong s a b (t, step, at) = (record { source = s; label = a; target = t }, step, refl, at)
  pair_given Branching s a b (u, t, way, step, at, shows) =
      (record { source = u; label = a; target = t }, step, refl, at)

  -- If no transition contributes a pair with a new block ID to the signature of the state s, then no block ID in this
  -- signature is new.
  shows_old : (rel : Relation) (s : ℕ) → ¬ ((e : Transition) × Contains A.transitions e × GivesNew rel s e)
      → (a : List ℕ) (b : ℕ) → Signature rel A blocks s a b → b < first_new
  shows_old rel s none a b can = elim (cases_lt b first_new) [
    | inl l ↦ l
    | inr l ↦ let (e, has, label, at) = pair_given rel s a b can in
        absurd (none (e, has, (rw (label, at) can, omega (arith, at, l))))
  ]

  -- Let s be a state. For branching bisimilarity, suppose that the block ID of s is old. Then s satisfies `active`, or
  -- no block ID in the signature of s is new (`MentionsOnlyOld`).
  found_or_old : (rel : Relation) → AreEnoughToProcess rel A blocks first_new active → (s : ℕ)
      → (rel ≡ Branching → blocks s < first_new) → active s ⊎ MentionsOnlyOld rel A blocks first_new s
  found_or_old rel looks s old =
      let decided = λ (e : Transition).
      both (signature_decided A blocks rel sys s e.label (blocks e.target)) (at_least first_new (blocks e.target)) in
      elim (some_in (GivesNew rel s) decided A.transitions) [
        | no none ↦ inr (old, shows_old rel s none)
        | yes (e, has, new) ↦ inl (shows_new rel looks s e.label (blocks e.target) old new.0 new.1)
      ]

  pub reach_found : (rel : Relation) → AreEnoughToProcess rel A blocks first_new active → (s : ℕ) → s < A.states
      → active s ⊎ MentionsOnlyOld rel A blocks first_new s
  reach_found Strong looks s ls = found_or_old Strong looks s (λ is. absurd cc)
  reach_found Branching looks s ls = elim (cases_lt (blocks s) first_new) [
    | inl l ↦ found_or_old Branching looks s (λ is. l)
    | inr l ↦ inl (looks.new refl s ls l)
  ]
