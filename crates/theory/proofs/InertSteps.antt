-- Lemmas about the branching signatures of the states on a path of inert steps.
use Rattle.std.proofs.Common.{◌≡◌, ◌⊎◌, ℕ, List, [], ◌∷◌, refl, sym, subst, inl, inr, ◌∙◌}
use Rattle.theory.specs.System.{System, Step, Leads, internal}
use Rattle.theory.specs.declared.relation.Relation.TheVariants.{Branching}
use Rattle.theory.specs.Blocks.{Inert, Signature, SameSignature}
use Rattle.theory.proofs.Paths.{leads_here}
use Rattle.theory.proofs.BranchingLaws.{signature_before}

-- Every path is empty or begins with a step.
pub leads_begins : (R : ℕ → ℕ → Type 0) (s u : ℕ) → Leads R s u → (s ≡ u) ⊎ ((t : ℕ) × R s t × Leads R t u)
leads_begins R s u ([], here) = inl here
leads_begins R s u (t ∷ ts, way) = inr (t, way.0, (ts, way.1))

module _ (A : System) (blocks : ℕ → ℕ) where
  -- If a step of the state s is not inert, the signature of s contains the label of this step together with the block
  -- of its target.
  pub signature_own : (s : ℕ) (a : List ℕ) (t : ℕ) → Step A s a t → ¬ ((a ≡ internal) × (blocks t ≡ blocks s))
      → Signature Branching A blocks s a (blocks t)
  signature_own s a t step shows = (s, t, leads_here (Inert A blocks) s, step, refl, shows)

  -- `IsOwn` holds if some step of the state s with the label a leads to the block b, and this step is not inert.
  abbrev pub IsOwn : ℕ → List ℕ → ℕ → Type 0
  IsOwn s a b = (t : ℕ) × Step A s a t × (blocks t ≡ b) × ¬ ((a ≡ internal) × (b ≡ blocks s))

  -- Each pair in the signature of the state s comes from a step of s that is not inert, or is in the signature of a
  -- state to which an inert step of s leads.
  pub signature_only : (s : ℕ) (a : List ℕ) (b : ℕ) → Signature Branching A blocks s a b
      → IsOwn s a b ⊎ ((t : ℕ) × Inert A blocks s t × Signature Branching A blocks t a b)
  signature_only s a b (u, t, way, step, at, shows) = elim (leads_begins (Inert A blocks) s u way) [
    | inl here ↦ inl (t, subst (λ x. Step A x a t) (sym here) step, at, shows)
    | inr on ↦ inr (on.0, on.1, (u, t, on.2, step, at, λ inert. shows (inert.0, inert.1 ∙ on.1.1)))
  ]

  -- If paths of inert steps lead from the state s to the state t and back, the signatures of s and t are equal.
  pub signature_mutual : (s t : ℕ) → Leads (Inert A blocks) s t → Leads (Inert A blocks) t s →
      SameSignature Branching A blocks s t
  signature_mutual s t there back a b =
      (signature_before A blocks t s back a b, signature_before A blocks s t there a b)
