-- Lemmas for both kinds of bisimulation: larger relations, unions and converses of bisimulations, and decidable
-- bisimulations.
use Rattle.std.proofs.Common.{◌≡◌, ◌⊎◌, ◌↔◌, ℕ, ◌+◌, ◌<◌, List, refl, subst, inl, inr, arith}
use Rattle.theory.specs.System.{System, IsSystem, Internal}
use Rattle.theory.specs.Bisimulation.{Matches, IsBisimulation, Pairs, Bisimilar}
use Rattle.theory.specs.declared.relation.Relation.{Relation}
use Rattle.theory.specs.declared.relation.Relation.TheVariants.{Strong, Branching}
use Rattle.theory.proofs.Paths.{leads_here, step_below}
use Rattle.theory.proofs.Deciding.{same_number, both, decided_like, some_in}
use Rattle.theory.proofs.Listing.{pairs_listed}

-- Suppose that the relation S relates any two states that the relation R relates. If the state t matches each step of
-- the state s with respect to R, then t matches each step of s with respect to S.
pub answers_weaker :
    (rel : Relation) (A B : System) (R S : ℕ → ℕ → Type 0) → ((s t : ℕ) → R s t → S s t) →
    (s t : ℕ) → Matches rel A B R s t → Matches rel A B S s t
answers_weaker Strong A B R S wider s t answers = λ a s' step.
    let found = answers a s' step in
    (found.0, found.1, wider s' found.0 found.2)
answers_weaker Branching A B R S wider s t answers = λ a s' step.
    elim (answers a s' step) [
      | inl rests ↦ inl (rests.0, wider s' t rests.1)
      | inr goes ↦ inr (goes.0, goes.1, goes.2, goes.3, wider s goes.0 goes.4, wider s' goes.1 goes.5)
    ]

-- Suppose that the relation R relates each state of A to itself. Then each state of A matches its own steps with
-- respect to R.
pub answers_itself :
    (rel : Relation) (A : System) (R : ℕ → ℕ → Type 0) → IsSystem A → ((s : ℕ) → s < A.states → R s s) →
    (s : ℕ) → s < A.states → Matches rel A A R s s
answers_itself Strong A R system itself s below = λ a s' step. (s', step, itself s' (step_below A system s a s' step).1)
answers_itself Branching A R system itself s below = λ a s' step.
    inr (s, s', leads_here (Internal A) s, step, itself s below, itself s' (step_below A system s a s' step).1)

-- `OrSame` holds if the relation R relates the state s to the state t, or if s and t are the same state of A.
abbrev pub OrSame : System → (ℕ → ℕ → Type 0) → ℕ → ℕ → Type 0
OrSame A R s t = R s t ⊎ ((s < A.states) × (s ≡ t))

-- Let R be a bisimulation between A and itself. If all pairs of equal states are added to R, then the result is a
-- bisimulation.
pub bisimulation_or_same :
    (rel : Relation) (A : System) (R : ℕ → ℕ → Type 0) → IsSystem A →
    IsBisimulation rel A A R → IsBisimulation rel A A (OrSame A R)
bisimulation_or_same rel A R system bisimulation = record {
  states = λ s t related. elim related [
    | inl r ↦ bisimulation.states s t r
    | inr same ↦ (same.0, subst (λ x. x < A.states) same.1 same.0)
  ];
  forth = λ s t related. elim related [
    | inl r ↦ answers_weaker rel A A R (OrSame A R) (λ x y h. inl h) s t (bisimulation.forth s t r)
    | inr same ↦ subst (λ x. Matches rel A A (OrSame A R) s x) same.1
        (answers_itself rel A (OrSame A R) system (λ x h. inr (h, refl)) s same.0)
  ];
  back = λ s t related. elim related [
    | inl r ↦
        answers_weaker rel A A (λ y x. R x y) (λ y x. OrSame A R x y) (λ y x h. inl h) t s (bisimulation.back s t r)
    | inr same ↦ subst (λ x. Matches rel A A (λ z y. OrSame A R y z) x s) same.1
        (answers_itself rel A (λ y x. OrSame A R x y) system (λ x h. inr (h, refl)) s same.0)
  ];
}

-- Suppose that the relations R and Q hold for the same pairs of states. If R is a bisimulation, then Q is a
-- bisimulation.
pub bisimulation_like : (rel : Relation) (A B : System) (R Q : ℕ → ℕ → Type 0) → ((s t : ℕ) → R s t ↔ Q s t)
    → IsBisimulation rel A B R → IsBisimulation rel A B Q
bisimulation_like rel A B R Q like bis = record {
  states = λ s t q. bis.states s t ((like s t).1 q);
  forth = λ s t q. answers_weaker rel A B R Q (λ x y. (like x y).0) s t (bis.forth s t ((like s t).1 q));
  back = λ s t q. answers_weaker rel B A (λ y x. R x y) (λ y x. Q x y) (λ y x. (like x y).0) t s
      (bis.back s t ((like s t).1 q));
}

-- If two relations are bisimulations between A and B, their union is a bisimulation between A and B.
pub bisimulations_joined : (rel : Relation) (A B : System) (R Q : ℕ → ℕ → Type 0) → IsBisimulation rel A B R
    → IsBisimulation rel A B Q → IsBisimulation rel A B (λ s t. R s t ⊎ Q s t)
bisimulations_joined rel A B R Q r q = record {
  states = λ s t h. elim h [ inl x ↦ r.states s t x | inr y ↦ q.states s t y ];
  forth = λ s t h. elim h [
    | inl x ↦ answers_weaker rel A B R (λ s t. R s t ⊎ Q s t) (λ x y. inl) s t (r.forth s t x)
    | inr y ↦ answers_weaker rel A B Q (λ s t. R s t ⊎ Q s t) (λ x y. inr) s t (q.forth s t y)
  ];
  back = λ s t h. elim h [
    | inl x ↦ answers_weaker rel B A (λ y x. R x y) (λ t s. R s t ⊎ Q s t) (λ x y. inl) t s (r.back s t x)
    | inr y ↦ answers_weaker rel B A (λ y x. Q x y) (λ t s. R s t ⊎ Q s t) (λ x y. inr) t s (q.back s t y)
  ];
}

pub pairs_decided : (pairs : List (ℕ × ℕ)) (s t : ℕ) → Dec (Pairs pairs s t)
pairs_decided pairs s t =
    decided_like
    (λ h. subst (Pairs pairs s) h.2.1 (subst (λ x. Pairs pairs x h.0.1) h.2.0 h.1))
    (λ c. ((s, t), c, (refl, refl)))
    (some_in (λ x. (x.0 ≡ s) × (x.1 ≡ t)) (λ x. both (same_number x.0 s) (same_number x.1 t)) pairs)

-- Two states are bisimilar if some list of pairs is a bisimulation that relates them. Suppose that R is a bisimulation,
-- that R is decidable, and that R relates the state s to the state t. Then s and t are bisimilar, because all pairs for
-- which R holds can be listed.
pub bisimilar_by : (rel : Relation) (A B : System) (R : ℕ → ℕ → Type 0) → ((s t : ℕ) → Dec (R s t))
    → IsBisimulation rel A B R
    → (s t : ℕ) → R s t → Bisimilar rel A s B t
bisimilar_by rel A B R d bis s t r =
    let n : ℕ = A.states + B.states in
    let all : (pairs : List (ℕ × ℕ)) × ((s t : ℕ) →
    Pairs pairs s t ↔ ((s < n) × (t < n) × R s t)) = pairs_listed n R d in (
      all.0,
      bisimulation_like rel A B R (Pairs all.0) (λ x y. (λ q. (all.1 x y).1 (within x y q), λ c. ((all.1 x y).0 c).2))
          bis,
      (all.1 s t).1 (within s t r),
    )
  where
    within : (x y : ℕ) → R x y → (x < A.states + B.states) × (y < A.states + B.states) × R x y
    within x y q =
        let at : (x < A.states) × (y < B.states) = bis.states x y q in
        (omega (arith, at.0), omega (arith, at.1), q)

pub bisimulation_flipped : (rel : Relation) (A B : System) (R : ℕ → ℕ → Type 0) → IsBisimulation rel A B R
    → IsBisimulation rel B A (λ y x. R x y)
bisimulation_flipped rel A B R bis = record {
  states = λ y x r. ((bis.states x y r).1, (bis.states x y r).0);
  forth = λ y x r. bis.back x y r;
  back = λ y x r. bis.forth x y r;
}

pub bisimilar_flipped : (rel : Relation) (A B : System) (s t : ℕ) → Bisimilar rel A s B t → Bisimilar rel B t A s
bisimilar_flipped rel A B s t (pairs, bis, r) =
    bisimilar_by rel B A (λ y x. Pairs pairs x y) (λ y x. pairs_decided pairs x y)
    (bisimulation_flipped rel A B (Pairs pairs) bis) t s r
