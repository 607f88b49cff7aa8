-- If two systems have the same steps (`SameSteps`), they have the same reachable states and the same bisimilar states,
-- and splits divide their states in the same way.
use Rattle.std.proofs.Common.{◌≡◌, ◌↔◌, ℕ, zero, suc, ◌<◌, List, refl, sym, subst, inl, inr}
use Rattle.std.specs.List.Sorted.{IsPermutation}
use Rattle.std.proofs.lemmas.List.Sorted.{IsPermutation-sym, Contains-permutation}
use Rattle.theory.specs.System.{System, Transition, Internal, AnyStep, Leads, Silent, Reachable, internal}
use Rattle.theory.specs.Bisimulation.{Matches, IsBisimulation, Pairs, Bisimilar}
use Rattle.theory.specs.declared.relation.Relation.{Relation}
use Rattle.theory.specs.declared.relation.Relation.TheVariants.{Strong, Branching}
use Rattle.theory.specs.Blocks.{Inert, Signature, SameSignature, EachTwo, Split, After, ChangesNothing, Turns}
use Rattle.theory.specs.Alike.{SameSteps}
use Rattle.theory.proofs.Paths.{leads_map}

-- The relation `SameSteps` is reflexive.
pub same_steps_refl : (A : System) → SameSteps A A
same_steps_refl A = record { first = refl; states = refl; steps = λ s a t. (λ h. h, λ h. h) }

pub same_steps_sym : (A B : System) → SameSteps A B → SameSteps B A
same_steps_sym A B same = record {
  first = sym same.first;
  states = sym same.states;
  steps = λ s a t. ((same.steps s a t).1, (same.steps s a t).0);
}

-- Suppose that A and B differ only in the order of their transitions. Then A and B have the same steps.
pub same_steps_permuted : (A B : System) → A.first ≡ B.first → A.states ≡ B.states
    → IsPermutation A.transitions B.transitions
    → SameSteps A B
same_steps_permuted A B first states moved = record {
  first = first;
  states = states;
  steps = λ s a t.
      let e : Transition = record { source = s; label = a; target = t } in (
        Contains-permutation A.transitions B.transitions e moved,
        Contains-permutation B.transitions A.transitions e (IsPermutation-sym A.transitions B.transitions moved),
      );
}

-- If two systems have the same steps, they have the same silent paths.
pub silent_alike : (A B : System) → SameSteps A B → (s t : ℕ) → Silent A s t → Silent B s t
silent_alike A B same = leads_map (Internal A) (Internal B) (λ x y. (same.steps x internal y).0)

pub reachable_alike : (A B : System) → SameSteps A B → (s : ℕ) → Reachable A s → Reachable B s
reachable_alike A B same s path =
    leads_map (AnyStep A) (AnyStep B) (λ x y r. (r.0, (same.steps x r.0 y).0 r.1)) B.first s
    (subst (λ x. Leads (AnyStep A) x s) same.first path)

-- Let A and B have the same steps, and let C and D have the same steps. If the state t of C matches the steps of the
-- state s of A with respect to the relation R, then the state t of D matches the steps of the state s of B with respect
-- to R.
answers_alike : (rel : Relation) (A B C D : System) → SameSteps A B → SameSteps C D → (R : ℕ → ℕ → Type 0) (s t : ℕ)
    → Matches rel A C R s t → Matches rel B D R s t
answers_alike Strong A B C D one other R s t answers = λ a s' step.
    let found = answers a s' ((one.steps s a s').1 step) in
    (found.0, (other.steps t a found.0).0 found.1, found.2)
answers_alike Branching A B C D one other R s t answers = λ a s' step.
    elim (answers a s' ((one.steps s a s').1 step)) [
      | inl rests ↦ inl rests
      | inr goes ↦ inr (
        goes.0,
        goes.1,
        silent_alike C D other t goes.0 goes.2,
        (other.steps goes.0 a goes.1).0 goes.3,
        goes.4,
        goes.5,
      )
    ]

-- Let A and B have the same steps, and let C and D have the same steps. Then every bisimulation between A and C is a
-- bisimulation between B and D.
bisimulation_alike : (rel : Relation) (A B C D : System) → SameSteps A B → SameSteps C D → (R : ℕ → ℕ → Type 0)
    → IsBisimulation rel A C R → IsBisimulation rel B D R
bisimulation_alike rel A B C D one other R meets = record {
  states = λ s t r.
      let at = meets.states s t r in
      (subst (λ n. s < n) one.states at.0, subst (λ n. t < n) other.states at.1);
  forth = λ s t r. answers_alike rel A B C D one other R s t (meets.forth s t r);
  back = λ s t r. answers_alike rel C D A B other one (λ y x. R x y) t s (meets.back s t r);
}

pub bisimilar_alike : (rel : Relation) (A B C D : System) (s t : ℕ) → SameSteps A B → SameSteps C D
    → Bisimilar rel A s C t → Bisimilar rel B s D t
bisimilar_alike rel A B C D s t one other (pairs, meets, related) =
    (pairs, bisimulation_alike rel A B C D one other (Pairs pairs) meets, related)

-- Suppose that two systems have the same steps, and that their states are divided into the same blocks. Then each state
-- has the same signature in both systems.
signature_alike : (rel : Relation) (A B : System) → SameSteps A B → (blocks : ℕ → ℕ) (s : ℕ) (a : List ℕ) (b : ℕ)
    → Signature rel A blocks s a b → Signature rel B blocks s a b
signature_alike Strong A B same blocks s a b (t, step, at) = (t, (same.steps s a t).0 step, at)
signature_alike Branching A B same blocks s a b (u, t, path, step, at, shown) = (
  u,
  t,
  leads_map (Inert A blocks) (Inert B blocks) (λ x y r. ((same.steps x internal y).0 r.0, r.1)) s u path,
  (same.steps u a t).0 step,
  at,
  shown,
)

-- `SameSignatures` holds if both of the following conditions hold. First, the systems A and B have the same number of
-- states. Second, for every partition into blocks and every state s, the signature of s in A for the relation `one`
-- equals the signature of s in B for the relation `two`. Each of these relations is strong or branching bisimilarity.
pub record SameSignatures (one two : Relation) (A B : System) : Type 0 where
  pub states : A.states ≡ B.states
  pub shown : (blocks : ℕ → ℕ) (s : ℕ) (a : List ℕ) (b : ℕ) →
      Signature one A blocks s a b ↔ Signature two B blocks s a b

signatures_alike : (rel : Relation) (A B : System) → SameSteps A B → SameSignatures rel rel A B
signatures_alike rel A B same = record {
  states = same.states;
  shown = λ blocks s a b.
      (signature_alike rel A B same blocks s a b, signature_alike rel B A (same_steps_sym A B same) blocks s a b);
}

turned : (one two : Relation) (A B : System) → SameSignatures one two A B → SameSignatures two one B A
turned one two A B same = record {
  states = sym same.states;
  shown = λ blocks s a b. let h = same.shown blocks s a b in (h.1, h.0);
}

module _ (one two : Relation) (A B : System) (same : SameSignatures one two A B) where
  same_signature_alike : (blocks : ℕ → ℕ) (s t : ℕ) → SameSignature one A blocks s t → SameSignature two B blocks s t
  same_signature_alike blocks s t h = λ a b. (
    λ x. (same.shown blocks t a b).0 ((h a b).0 ((same.shown blocks s a b).1 x)),
    λ x. (same.shown blocks s a b).0 ((h a b).1 ((same.shown blocks t a b).1 x)),
  )

  -- Suppose that A and B have the same number of states. If the relation P holds for any two states of A, then P holds
  -- for any two states of B.
  each_two_alike : (P : ℕ → ℕ → Type 0) → EachTwo A P → EachTwo B P
  each_two_alike P h s t ls lt =
      h s t (subst (λ n. s < n) (sym same.states) ls) (subst (λ n. t < n) (sym same.states) lt)

-- If A and B have the same signatures (`SameSignatures`), then a split divides each partition in the same way for A and
-- for B.
module _ (one two : Relation) (A B : System) (same : SameSignatures one two A B) where
  split_alike : (old new : ℕ → ℕ) → Split one A old new → Split two B old new
  split_alike old new split s t ls lt =
      let P = λ (s t : ℕ). (new s ≡ new t) ↔ ((old s ≡ old t) × SameSignature one A old s t) in
      let h = each_two_alike one two A B same P split s t ls lt in (
        λ e. ((h.0 e).0, same_signature_alike one two A B same old s t (h.0 e).1),
        λ g. h.1 (g.0, same_signature_alike two one B A (turned one two A B same) old s t g.1),
      )

  after_alike : (k : ℕ) (blocks : ℕ → ℕ) → After one A k blocks → After two B k blocks
  after_alike zero blocks all = each_two_alike one two A B same (λ s t. blocks s ≡ blocks t) all
  after_alike (suc k) blocks (old, after, split) = (old, after_alike k old after, split_alike old blocks split)

  changes_nothing_alike : (k : ℕ) → ChangesNothing one A k → ChangesNothing two B k
  changes_nothing_alike zero none = none
  changes_nothing_alike (suc k) (old, new, after, split, kept) = (
    old,
    new,
    after_alike k old after,
    split_alike old new split,
    each_two_alike one two A B same (λ s t. (new s ≡ new t) ↔ (old s ≡ old t)) kept,
  )

-- If A and B have the same signatures (`SameSignatures`), refinement makes the same number of splits for A and for B.
pub same_signatures_turns : (one two : Relation) (A B : System) → SameSignatures one two A B → (k : ℕ) →
    Turns one A k → Turns two B k
same_signatures_turns one two A B same k turns = record {
  last = changes_nothing_alike one two A B same k turns.last;
  least = λ j low none. turns.least j low (changes_nothing_alike two one B A (turned one two A B same) j none);
}

pub turns_alike : (rel : Relation) (A B : System) → SameSteps A B → (k : ℕ) → Turns rel A k → Turns rel B k
turns_alike rel A B same = same_signatures_turns rel rel A B (signatures_alike rel A B same)
