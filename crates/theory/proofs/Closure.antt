-- If a relation on the numbers below a bound is decidable, then it is decidable whether a path of this relation leads
-- from one number to another. The proof is by induction on a bound for the numbers between the first and the last
-- number of the path (Warshall 1962).
use Rattle.std.proofs.Common.{◌≡◌, ◌⊎◌, ℕ, zero, suc, ◌<◌, List, [], ◌∷◌, refl, subst, inl, inr, arith}
use Rattle.std.proofs.lemmas.Bool.{cases_eq}
use Rattle.theory.specs.System.{Along, Leads}
use Rattle.theory.proofs.Deciding.{same_number, both, one_of, decided_like}
use Rattle.theory.proofs.Paths.{leads_append}

-- `Via` holds if a path of the relation R leads from the number s to the number t, and every number on this path,
-- except for the first and the last one, is less than the number k.
abbrev Via : (ℕ → ℕ → Type 0) → ℕ → ℕ → ℕ → Type 0
Via R zero s t = (s ≡ t) ⊎ R s t
Via R (suc k) s t = Via R k s t ⊎ (Via R k s k × Via R k k t)

via_decided : (R : ℕ → ℕ → Type 0) → ((s t : ℕ) → Dec (R s t)) → (k s t : ℕ) → Dec (Via R k s t)
via_decided R d zero s t = one_of (same_number s t) (d s t)
via_decided R d (suc k) s t = one_of (via_decided R d k s t) (both (via_decided R d k s k) (via_decided R d k k t))

via_leads : (R : ℕ → ℕ → Type 0) (k s t : ℕ) → Via R k s t → Leads R s t
via_leads R zero s t (inl e) = ([], e)
via_leads R zero s t (inr r) = (t ∷ [], (r, refl))
via_leads R (suc k) s t (inl h) = via_leads R k s t h
via_leads R (suc k) s t (inr h) = leads_append R s k t (via_leads R k s k h.0) (via_leads R k k t h.1)

via_from : (R : ℕ → ℕ → Type 0) (k s t : ℕ) → (s ≡ t) ⊎ R s t → Via R k s t
via_from R zero s t h = h
via_from R (suc k) s t h = inl (via_from R k s t h)

-- Let k be a number. A path between numbers is k-low if every number on the path, except for the first and the last
-- one, is less than k. Suppose that k-low paths can be joined at each number u less than k: if one k-low path ends in
-- u, and another one begins in u, then a k-low path leads from the beginning of the first path to the end of the second
-- path. Then (k + 1)-low paths can be joined at each number less than k + 1.
via_step : (R : ℕ → ℕ → Type 0) (k : ℕ)
    → ((s u t : ℕ) → u < k → Via R k s u → Via R k u t → Via R k s t)
    → (s u t : ℕ) → u < suc k → Via R (suc k) s u → Via R (suc k) u t → Via R (suc k) s t
via_step R k join s u t l h g = elim (cases_eq u k) [
  | inl e ↦ inr (into (subst (λ x. Via R (suc k) s x) e h), onward (subst (λ x. Via R (suc k) x t) e g))
  | inr e ↦ below (omega (arith, l, e)) h g
]
  where
    into : Via R (suc k) s k → Via R k s k
    into (inl p) = p
    into (inr p) = p.0

    onward : Via R (suc k) k t → Via R k k t
    onward (inl p) = p
    onward (inr p) = p.1

    below : u < k → Via R (suc k) s u → Via R (suc k) u t → Via R (suc k) s t
    below l' (inl p) (inl q) = inl (join s u t l' p q)
    below l' (inl p) (inr q) = inr (join s u k l' p q.0, q.1)
    below l' (inr p) (inl q) = inr (p.0, join k u t l' p.1 q)
    below l' (inr p) (inr q) = inr (p.0, q.1)

via_joined : (R : ℕ → ℕ → Type 0) (k s u t : ℕ) → u < k → Via R k s u → Via R k u t → Via R k s t
via_joined R zero s u t l h g = absurd (omega (arith, l))
via_joined R (suc k) s u t l h g = via_step R k (λ x y z. via_joined R k x y z) s u t l h g

leads_via : (R : ℕ → ℕ → Type 0) (n : ℕ) → ((s t : ℕ) → R s t → t < n) → (us : List ℕ) (s t : ℕ) →
    Along R s us t → Via R n s t
leads_via R n b [] s t h = via_from R n s t (inl h)
leads_via R n b (u ∷ us) s t h =
    via_joined R n s u t (b s u h.0) (via_from R n s u (inr h.0)) (leads_via R n b us u t h.1)

-- Suppose that the relation R between numbers is decidable, and relates numbers only to numbers less than n. Then it is
-- decidable whether a path of R leads from the number s to the number t.
pub leads_decided : (R : ℕ → ℕ → Type 0) (n : ℕ) → ((s t : ℕ) → Dec (R s t)) → ((s t : ℕ) → R s t → t < n)
    → (s t : ℕ) → Dec (Leads R s t)
leads_decided R n d b s t =
    decided_like (via_leads R n s t) (λ h. leads_via R n b h.0 s t h.1) (via_decided R d n s t)
