-- Lemmas about paths of a relation, and about the states that paths of a system lead to.
use Rattle.std.proofs.Common.{ℕ, ◌<◌, List, [], ◌∷◌, ◌++◌, refl, sym, subst}
use Rattle.std.proofs.lemmas.List.Elements.{All-contains}
use Rattle.theory.specs.System.{Transition, System, IsSystem, IsAmong, Step, Internal, AnyStep, Along, Leads, Silent}
use Rattle.theory.specs.System.{Reachable}

-- If one path ends where another path begins, the two paths can be joined.
pub along_append :
    (R : ℕ → ℕ → Type 0) (s t u : ℕ) (vs ws : List ℕ) →
    Along R s vs t → Along R t ws u → Along R s (vs ++ ws) u
along_append R s t u [] ws p q = subst (λ x. Along R x ws u) (sym p) q
along_append R s t u (v ∷ vs) ws p q = (p.0, along_append R v t u vs ws p.1 q)

-- The empty path leads from s to s.
pub leads_here : (R : ℕ → ℕ → Type 0) (s : ℕ) → Leads R s s
leads_here R s = ([], refl)

-- If the relation R relates the state s to the state t, then a path of R leads from s to t.
pub leads_step : (R : ℕ → ℕ → Type 0) (s t : ℕ) → R s t → Leads R s t
leads_step R s t r = (t ∷ [], (r, refl))

-- If a path leads from the state s to the state t, and a path leads from t to the state u, then a path leads from s to
-- u.
pub leads_append : (R : ℕ → ℕ → Type 0) (s t u : ℕ) → Leads R s t → Leads R t u → Leads R s u
leads_append R s t u p q = (p.0 ++ q.0, along_append R s t u p.0 q.0 p.1 q.1)

-- If a path leads from the state s to the state t, and a step leads from t to the state u, then a path leads from s to
-- u.
pub leads_on : (R : ℕ → ℕ → Type 0) (s t u : ℕ) → Leads R s t → R t u → Leads R s u
leads_on R s t u p r = leads_append R s t u p (leads_step R t u r)

-- Let Q, R and S be relations. Suppose that S can follow each step of R: if R relates s to t, and Q relates s to p,
-- then a path of S leads from p to some q, and Q relates t to q. Then S can follow each path of R: if a path of R leads
-- from s to t, and Q relates s to p, then a path of S leads from p to some q, and Q relates t to q.
pub leads_answered :
    (R S Q : ℕ → ℕ → Type 0) →
    ((s t p : ℕ) → R s t → Q s p → (q : ℕ) × Leads S p q × Q t q) →
    (s t p : ℕ) → Leads R s t → Q s p → (q : ℕ) × Leads S p q × Q t q
leads_answered R S Q step s t p path tied = go s path.0 p path.1 tied
  where
    go : (s : ℕ) (us : List ℕ) (p : ℕ) → Along R s us t → Q s p → (q : ℕ) × Leads S p q × Q t q
    go s [] p same tied = (p, leads_here S p, subst (λ x. Q x p) same tied)
    go s (u ∷ us) p path tied =
        let first = step s u p path.0 tied in
        let rest = go u us first.0 path.1 first.2 in
        (rest.0, leads_append S p first.0 rest.0 first.1 rest.1, rest.2)

-- If each step of the relation R preserves a property, every path of R preserves this property.
pub leads_keeps :
    (R : ℕ → ℕ → Type 0) (P : ℕ → Type 0) → ((s t : ℕ) → R s t → P s → P t) →
    (s t : ℕ) → Leads R s t → P s → P t
leads_keeps R P step s t path held =
    (leads_answered R R (λ x p. P x) (λ x y p r h. (p, leads_here R p, step x y r h)) s t s path held).2

-- If each step of the relation R is a step of the relation S, every path of R is a path of S.
pub leads_map : (R S : ℕ → ℕ → Type 0) → ((s t : ℕ) → R s t → S s t) → (s t : ℕ) → Leads R s t → Leads S s t
leads_map R S step s t path = go s path.0 path.1
  where
    go : (s : ℕ) (us : List ℕ) → Along R s us t → Leads S s t
    go s [] same = ([], same)
    go s (u ∷ us) path = leads_append S s u t (leads_step S s u (step s u path.0)) (go u us path.1)

-- Every step of a system leads from a state of the system to a state of the system.
pub step_below :
    (A : System) → IsSystem A → (s : ℕ) (a : List ℕ) (t : ℕ) → Step A s a t → (s < A.states) × (t < A.states)
step_below A system s a t step =
    let e : Transition = record { source = s; label = a; target = t } in
    let among = All-contains (IsAmong A.states) A.transitions e system.transitions step in
    (among.source, among.target)

-- If a silent path begins in a state of the system, it ends in a state of the system.
pub silent_below : (A : System) → IsSystem A → (s t : ℕ) → Silent A s t → s < A.states → t < A.states
silent_below A system = leads_keeps (Internal A) (λ x. x < A.states) (λ x y r h. (step_below A system x _ y r).1)

-- Every reachable state is a state of the system.
pub reachable_below : (A : System) → IsSystem A → (s : ℕ) → Reachable A s → s < A.states
reachable_below A system s path =
    leads_keeps (AnyStep A) (λ x. x < A.states) (λ x y r h. (step_below A system x r.0 y r.1).1) A.first s
    path system.first

-- If a step leads from a reachable state to the state t, then t is reachable.
pub reachable_on : (A : System) (s : ℕ) (a : List ℕ) (t : ℕ) → Reachable A s → Step A s a t → Reachable A t
reachable_on A s a t path step = leads_on (AnyStep A) A.first s t path (a, step)
