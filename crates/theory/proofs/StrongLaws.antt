-- Lemmas about splitting a partition by strong signatures.
use Rattle.std.proofs.Common.{◌≡◌, ℕ, List, refl, sym, ◌∙◌}
use Rattle.theory.specs.System.{System, IsSystem}
use Rattle.theory.specs.Bisimulation.{IsBisimulation, StronglyMatches}
use Rattle.theory.specs.declared.relation.Relation.TheVariants.{Strong}
use Rattle.theory.specs.Blocks.{Signature, SameSignature, Stable, Share}
use Rattle.theory.proofs.Paths.{step_below}

-- Let R be a strong bisimulation between A and B. Two states of A are together if R relates them to the same state of
-- B. Suppose that any two states that are together share a block. Then any two states that are together have equal
-- signatures.
module _ (A B : System) (blocks : ℕ → ℕ) (R : ℕ → ℕ → Type 0) (bisimulation : IsBisimulation Strong A B R)
    (shared : (s t x : ℕ) → R s x → R t x → blocks s ≡ blocks t) where
  strong_within :
      (s t x : ℕ) → R s x → R t x →
      (a : List ℕ) (b : ℕ) → Signature Strong A blocks s a b → Signature Strong A blocks t a b
  strong_within s t x sx tx a b can =
      let there = bisimulation.forth s x sx a can.0 can.1 in
      let again = bisimulation.back t x tx a there.0 there.1 in
      (again.0, again.1, shared again.0 can.0 there.0 again.2 there.2 ∙ can.2)

  pub strong_same : (s t x : ℕ) → R s x → R t x → SameSignature Strong A blocks s t
  strong_same s t x sx tx a b = (strong_within s t x sx tx a b, strong_within t s x tx sx a b)

-- A partition is stable if any two states that share a block have equal signatures. If a partition is stable, two
-- states that share a block match each other's steps.
pub strong_answers :
    (A : System) (blocks : ℕ → ℕ) → IsSystem A → Stable Strong A blocks →
    (s t : ℕ) → Share A blocks s t → StronglyMatches A A (Share A blocks) s t
strong_answers A blocks system stable s t share a s' step =
    let found = (stable s t share.0 share.1 share.2 a (blocks s')).0 (s', step, refl) in
    (found.0, found.1, ((step_below A system s a s' step).1, (step_below A system t a found.0 found.1).1, sym found.2))
