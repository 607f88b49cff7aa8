-- Lemmas about the bisimilarity of states of different systems. Bisimilarity is symmetric and transitive. Two states
-- are bisimilar if and only if the states that represent them in the union of the systems are bisimilar.
use Rattle.std.proofs.Common.{◌≡◌, ◌↔◌, ℕ, ◌+◌, ◌<◌, subst₂, arith}
use Rattle.theory.specs.System.{System, IsSystem}
use Rattle.theory.specs.Bisimulation.{Bisimilar, Equivalent}
use Rattle.theory.specs.declared.relation.Relation.{Relation}
use Rattle.theory.specs.Blocks.{EachTwo}
use Rattle.theory.specs.Alike.{SameSteps}
use Rattle.theory.specs.Union.{union_of}
use Rattle.theory.proofs.Bisimulations.{bisimilar_flipped}
use Rattle.theory.proofs.Turning.{bisimilar_refl, bisimilar_through}
use Rattle.theory.proofs.AlikeSystems.{same_steps_sym, bisimilar_alike}
use Rattle.theory.proofs.Embeddings.{embeds_itself, bisimilar_there, bisimilar_back}
use Rattle.theory.proofs.UnionSteps.{union_system, embeds_left, embeds_right}

-- If `Bisimilar` holds for the number s in the system A and the number t in the system B, then s is a state of A, and t
-- is a state of B.
pub bisimilar_states : (rel : Relation) (A B : System) (s t : ℕ) → Bisimilar rel A s B t →
    (s < A.states) × (t < B.states)
bisimilar_states rel A B s t (pairs, meets, c) = meets.states s t c

module _ (rel : Relation) (A B : System) (sys : IsSystem A) (sys' : IsSystem B) where
  -- A state of A and a state of B are bisimilar if and only if the states that represent them in the union of A and B
  -- are bisimilar.
  pub union_across : (s t : ℕ) → s < A.states → t < B.states
      → Bisimilar rel A s B t ↔ Bisimilar rel (union_of A B) s (union_of A B) (A.states + t)
  union_across s t low low' =
      let U : System = union_of A B in (
        bisimilar_there rel A U B U (λ x. x) (λ x. A.states + x) (embeds_left A B) (embeds_right A B sys) s t,
        bisimilar_back rel A U B U (λ x. x) (λ x. A.states + x) (embeds_left A B) (embeds_right A B sys) s t
            sys sys' low low',
      )

  -- Two states of A are bisimilar if and only if the states that represent them in the union of A and B are bisimilar.
  pub union_within_left : (s t : ℕ) → s < A.states → t < A.states
      → Bisimilar rel A s A t ↔ Bisimilar rel (union_of A B) s (union_of A B) t
  union_within_left s t low low' =
      let U : System = union_of A B in (
        bisimilar_there rel A U A U (λ x. x) (λ x. x) (embeds_left A B) (embeds_left A B) s t,
        bisimilar_back rel A U A U (λ x. x) (λ x. x) (embeds_left A B) (embeds_left A B) s t sys sys low low',
      )

  -- Two states of B are bisimilar if and only if the states that represent them in the union of A and B are bisimilar.
  pub union_within_right : (s t : ℕ) → s < B.states → t < B.states
      → Bisimilar rel B s B t ↔ Bisimilar rel (union_of A B) (A.states + s) (union_of A B) (A.states + t)
  union_within_right s t low low' =
      let U : System = union_of A B in (
        bisimilar_there rel B U B U (λ x. A.states + x) (λ x. A.states + x) (embeds_right A B sys)
            (embeds_right A B sys) s t,
        bisimilar_back rel B U B U (λ x. A.states + x) (λ x. A.states + x) (embeds_right A B sys) (embeds_right A B sys)
            s t sys' sys' low low',
      )

  -- Each state of A is bisimilar to the state that represents it in the union. The next lemma states the same for each
  -- state of B.
  pub union_of_left : (s : ℕ) → s < A.states → Bisimilar rel A s (union_of A B) s
  union_of_left s low =
      bisimilar_there rel A A A (union_of A B) (λ x. x) (λ x. x) (embeds_itself A) (embeds_left A B) s s
      (bisimilar_refl rel A sys s low)

  pub union_of_right : (t : ℕ) → t < B.states → Bisimilar rel B t (union_of A B) (A.states + t)
  union_of_right t low =
      bisimilar_there rel B B B (union_of A B) (λ x. x) (λ x. A.states + x) (embeds_itself B) (embeds_right A B sys) t t
      (bisimilar_refl rel B sys' t low)

  -- Let U be a system with the steps of the union of A and B. Then A and B are equivalent if and only if their first
  -- states are bisimilar in U.
  module _ (U : System) (same : SameSteps U (union_of A B)) where
    pub first_states : (A.first < U.states) × (A.states + B.first < U.states)
    first_states =
        let n : U.states ≡ A.states + B.states = same.states in
        (omega (arith, n, sys.first), omega (arith, n, sys'.first))

    pub equivalent_in_union : Equivalent rel A B ↔ Bisimilar rel U A.first U (A.states + B.first)
    equivalent_in_union =
        let V : System = union_of A B in
        let back : SameSteps V U = same_steps_sym U V same in
        let h = union_across A.first B.first sys.first sys'.first in (
          λ b. bisimilar_alike rel V U V U A.first (A.states + B.first) back back (h.0 b),
          λ b. h.1 (bisimilar_alike rel U V U V A.first (A.states + B.first) same same b),
        )

    pub equivalent_by_blocks : (blocks : ℕ → ℕ) → EachTwo U (λ s t. (blocks s ≡ blocks t) ↔ Bisimilar rel U s U t)
        → Equivalent rel A B ↔ (blocks A.first ≡ blocks (A.states + B.first))
    equivalent_by_blocks blocks exact =
        let h = exact A.first (A.states + B.first) first_states.0 first_states.1 in
        (λ b. h.1 (equivalent_in_union.0 b), λ e. equivalent_in_union.1 (h.0 e))

module _ (rel : Relation) (A B C : System) where
  -- If the state s is bisimilar to the state t, and t is bisimilar to the state u, then s is bisimilar to u.
  pub bisimilar_across : IsSystem A → IsSystem C → (s t u : ℕ) → Bisimilar rel A s B t → Bisimilar rel B t C u →
      Bisimilar rel A s C u
  bisimilar_across sys sys' s t u one other =
      let U : System = union_of A C in
      let x = bisimilar_there rel A U B B (λ z. z) (λ z. z) (embeds_left A C) (embeds_itself B) s t one in
      let y = bisimilar_there rel C U B B (λ z. A.states + z) (λ z. z) (embeds_right A C sys) (embeds_itself B) u t
      (bisimilar_flipped rel B C t u other) in
      (union_across rel A C sys sys' s u (bisimilar_states rel A B s t one).0 (bisimilar_states rel B C t u other).1).1
      (bisimilar_through rel U (union_system A C sys sys') B s (A.states + u) t x y)

-- Let A and B have the same steps, and let C and D have the same steps. If A and C are equivalent, then B and D are
-- equivalent.
pub equivalent_alike : (rel : Relation) (A B C D : System) → SameSteps A B → SameSteps C D → Equivalent rel A C →
    Equivalent rel B D
equivalent_alike rel A B C D one other b =
    subst₂ (λ x y. Bisimilar rel B x D y) one.first other.first
    (bisimilar_alike rel A B C D A.first C.first one other b)
