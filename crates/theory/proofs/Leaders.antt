-- The leader of a reachable state is the state that represents its class in the quotient. Each reachable state has
-- exactly one leader. States of different classes have different leaders. It is decidable whether a state is a leader.
use Rattle.std.proofs.Common.{◌≡◌, ℕ, ◌<◌, ◌≤◌, refl, sym, ◌∙◌, subst, inl, inr, le_antisymm}
use Rattle.std.proofs.lemmas.Bool.{cases_lt}
use Rattle.theory.specs.System.{System, IsSystem, Step, AnyStep, Reachable}
use Rattle.theory.specs.Bisimulation.{Bisimilar}
use Rattle.theory.specs.declared.relation.Relation.{Relation}
use Rattle.theory.specs.Quotient.{Fellow, Leader, IsLeader}
use Rattle.theory.proofs.Deciding.{same_number, both, decided_like, some_in, least_to}
use Rattle.theory.proofs.Paths.{leads_here, step_below, reachable_below}
use Rattle.theory.proofs.Closure.{leads_decided}
use Rattle.theory.proofs.Turning.{bisimilar_refl, bisimilar_sym, bisimilar_trans, bisimilar_decided}

-- It is decidable whether some step leads from the state s to the state t.
any_step_decided : (A : System) (s t : ℕ) → Dec (AnyStep A s t)
any_step_decided A s t =
    decided_like
    (λ h. (h.0.label, subst (λ x. Step A s h.0.label x) h.2.1 (subst (λ x. Step A x h.0.label h.0.target) h.2.0 h.1)))
    (λ h. (record { source = s; label = h.0; target = t }, h.1, (refl, refl)))
    (some_in (λ e. (e.source ≡ s) × (e.target ≡ t)) (λ e. both (same_number e.source s) (same_number e.target t))
    A.transitions)

-- The leader of a state is the state that represents its class. A state has at most one leader.
pub leader_unique : (rel : Relation) (A : System) (s l m : ℕ) → Leader rel A s l → Leader rel A s m → l ≡ m
leader_unique rel A s l m (inl p) (inl q) = p.1 ∙ sym q.1
leader_unique rel A s l m (inl p) (inr q) = absurd (q.0 p.0)
leader_unique rel A s l m (inr p) (inl q) = absurd (p.0 q.0)
leader_unique rel A s l m (inr p) (inr q) = le_antisymm (p.1.1 m q.1.0) (q.1.1 l p.1.0)

-- The first state is reachable.
pub first_reachable : (A : System) → Reachable A A.first
first_reachable A = leads_here (AnyStep A) A.first

module _ (rel : Relation) (A : System) (sys : IsSystem A) where
  -- It is decidable whether a state is reachable.
  pub reachable_decided : (s : ℕ) → Dec (Reachable A s)
  reachable_decided s =
      leads_decided (AnyStep A) A.states (any_step_decided A) (λ x y h. (step_below A sys x h.0 y h.1).1) A.first s

  -- The first state is its own leader: it represents its class.
  pub first_leads : Leader rel A A.first A.first
  first_leads = inl (bisimilar_refl rel A sys A.first sys.first, refl)

  -- The leader of a state is the state that represents its class. The leader is reachable, and it is bisimilar to the
  -- state.
  pub leader_fellow : (s l : ℕ) → Leader rel A s l → Fellow rel A s l
  leader_fellow s l (inl (b, e)) = subst (Fellow rel A s) (sym e) (first_reachable A, b)
  leader_fellow s l (inr (no_b, least)) = least.0

  -- The leader of a state is the state that represents its class. If two states are bisimilar, they have the same
  -- leader.
  pub leader_carried : (s t l : ℕ) → Bisimilar rel A s A t → Leader rel A s l → Leader rel A t l
  leader_carried s t l b (inl (c, e)) = inl (bisimilar_trans rel A sys t s A.first (bisimilar_sym rel A sys s t b) c, e)
  leader_carried s t l b (inr (no_c, (fellow, least))) = inr (
    λ c. no_c (bisimilar_trans rel A sys s t A.first b c),
    (
      (fellow.0, bisimilar_trans rel A sys t s l (bisimilar_sym rel A sys s t b) fellow.1),
      λ k other. least k (other.0, bisimilar_trans rel A sys s t k b other.1),
    ),
  )

  -- The leader of a state is the state that represents its class. If two states have the same leader, they are
  -- bisimilar.
  pub same_leader_bisimilar : (s t l : ℕ) → Leader rel A s l → Leader rel A t l → Bisimilar rel A s A t
  same_leader_bisimilar s t l h g =
      bisimilar_trans rel A sys s l t (leader_fellow s l h).1 (bisimilar_sym rel A sys t l (leader_fellow t l g).1)

  -- The leader of a state is the state that represents its class. If l is the leader of some state, then l is the
  -- leader of l.
  pub leads_itself : (s l : ℕ) → Leader rel A s l → Leader rel A l l
  leads_itself s l h = leader_carried s l l (leader_fellow s l h).1 h

  -- The leader of a state is the state that represents its class. Every reachable state has a leader.
  pub leader_of : (s : ℕ) → Reachable A s → (l : ℕ) × Leader rel A s l
  leader_of s path = go (bisimilar_decided rel A sys s A.first)
    where
      least : ¬ Bisimilar rel A s A A.first → (l : ℕ) × Leader rel A s l
      least apart =
          let found : (k : ℕ) × (k ≤ s) × Fellow rel A s k × ((j : ℕ) → j < k → ¬ Fellow rel A s j) =
          least_to (Fellow rel A s) (λ k. both (reachable_decided k) (bisimilar_decided rel A sys s k)) s
          (path, bisimilar_refl rel A sys s (reachable_below A sys s path)) in (
            found.0,
            inr (
              apart,
              (
                found.2,
                λ k fellow. elim (cases_lt k found.0) [
                  | inl l ↦ absurd (found.3 k l fellow)
                  | inr l ↦ l
                ],
              ),
            ),
          )

      go : Dec (Bisimilar rel A s A A.first) → (l : ℕ) × Leader rel A s l
      go (yes b) = (A.first, inl (b, refl))
      go (no apart) = least apart

  -- A leader is the state that represents its class. Every leader is reachable, and is its own leader.
  pub is_leader_itself : (l : ℕ) → IsLeader rel A l → Reachable A l × Leader rel A l l
  is_leader_itself l (s, path, h) = ((leader_fellow s l h).0, leads_itself s l h)

  -- A leader is the state that represents its class. Every leader is a state of the system.
  pub is_leader_below : (l : ℕ) → IsLeader rel A l → l < A.states
  is_leader_below l h = reachable_below A sys l (is_leader_itself l h).0

  -- A leader is the state that represents its class. It is decidable whether a state is a leader.
  pub is_leader_decided : (l : ℕ) → Dec (IsLeader rel A l)
  is_leader_decided l = go (reachable_decided l)
    where
      own : (path : Reachable A l) → Dec ((leader_of l path).0 ≡ l) → Dec (IsLeader rel A l)
      own path (yes e) = yes (l, path, subst (Leader rel A l) e (leader_of l path).1)
      own path (no f) =
          no (λ h. f (leader_unique rel A l (leader_of l path).0 l (leader_of l path).1 (is_leader_itself l h).1))

      go : Dec (Reachable A l) → Dec (IsLeader rel A l)
      go (yes path) = own path (same_number (leader_of l path).0 l)
      go (no f) = no (λ h. f (is_leader_itself l h).0)

  -- A leader is the state that represents its class. If two leaders are bisimilar, they are equal, because each class
  -- has only one leader.
  pub leaders_apart : (l m : ℕ) → IsLeader rel A l → IsLeader rel A m → Bisimilar rel A l A m → l ≡ m
  leaders_apart l m h g b =
      leader_unique rel A m l m (leader_carried l m l b (is_leader_itself l h).1) (is_leader_itself m g).1
