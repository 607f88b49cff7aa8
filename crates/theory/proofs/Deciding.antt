-- Lemmas which show that propositions are decidable. The equality of two numbers or of two labels is decidable. If P
-- and Q are decidable, then the negation of P, and the conjunction, the disjunction and the implication of P and Q are
-- decidable. If P is a decidable property, it is decidable whether some number below a bound has the property P, and
-- whether some element of a list has the property P. In each lemma below, the property P is decidable.
use Rattle.std.proofs.Common.{◌≡◌, ◌⊎◌, ◌↔◌, ℕ, zero, suc, ◌<◌, ◌≤◌, List, [], ◌∷◌, Contains, refl, subst, inl, inr}
use Rattle.std.proofs.Common.{arith}
use Rattle.std.proofs.lemmas.Bool.{cases_eq, cases_lt, cases_order}

pub same_number : (m n : ℕ) → Dec (m ≡ n)
same_number m n = elim (cases_eq m n) [ inl e ↦ yes e | inr d ↦ no d ]

pub below : (m n : ℕ) → Dec (m < n)
below m n = elim (cases_lt m n) [ inl l ↦ yes l | inr l ↦ no (λ k. absurd (omega (arith, l, k))) ]

pub same_bytes : (a b : List ℕ) → Dec (a ≡ b)
same_bytes [] [] = yes refl
same_bytes [] (y ∷ b) = no (λ e. cc)
same_bytes (x ∷ a) [] = no (λ e. cc)
same_bytes (x ∷ a) (y ∷ b) = go (same_number x y) (same_bytes a b)
  where
    go : Dec (x ≡ y) → Dec (a ≡ b) → Dec (x ∷ a ≡ y ∷ b)
    go (yes p) (yes q) = yes cc
    go (yes p) (no d) = no (λ e. d cc)
    go (no d) q = no (λ e. d cc)

pub not_so : {P : Type 0} → Dec P → Dec (¬ P)
not_so (yes p) = no (λ f. f p)
not_so (no d) = yes d

pub both : {P Q : Type 0} → Dec P → Dec Q → Dec (P × Q)
both (yes p) (yes q) = yes (p, q)
both (yes p) (no d) = no (λ h. d h.1)
both (no d) q = no (λ h. d h.0)

pub one_of : {P Q : Type 0} → Dec P → Dec Q → Dec (P ⊎ Q)
one_of (yes p) q = yes (inl p)
one_of (no d) (yes q) = yes (inr q)
one_of (no d) (no e) = no (λ h. elim h [ inl p ↦ d p | inr q ↦ e q ])

pub implied : {P Q : Type 0} → Dec P → Dec Q → Dec (P → Q)
implied (no d) q = yes (λ p. absurd (d p))
implied (yes p) (yes q) = yes (λ h. q)
implied (yes p) (no e) = no (λ f. e (f p))

pub decided_like : {P Q : Type 0} → (P → Q) → (Q → P) → Dec P → Dec Q
decided_like f g (yes p) = yes (f p)
decided_like f g (no d) = no (λ q. d (g q))

-- It is decidable whether some number less than n has the property P.
pub some_below : (P : ℕ → Type 0) → ((k : ℕ) → Dec (P k)) → (n : ℕ) → Dec ((k : ℕ) × (k < n) × P k)
some_below P d zero = no (λ h. absurd (omega (arith, h.1)))
some_below P d (suc n) = go (d n) (some_below P d n)
  where
    go : Dec (P n) → Dec ((k : ℕ) × (k < n) × P k) → Dec ((k : ℕ) × (k < suc n) × P k)
    go (yes p) h = yes (n, omega arith, p)
    go (no f) (yes h) = yes (h.0, omega (arith, h.1), h.2)
    go (no f) (no g) =
        no (λ h. elim (cases_eq h.0 n) [ inl e ↦ f (rw e at h.2) | inr e ↦ g (h.0, omega (arith, h.1, e), h.2) ])

-- Either all numbers less than n have the property P, or some number less than n does not have the property P.
pub each_below : (P : ℕ → Type 0) → ((k : ℕ) → Dec (P k)) → (n : ℕ) →
    ((k : ℕ) → k < n → P k) ⊎ ((k : ℕ) × (k < n) × ¬ P k)
each_below P d n = go (some_below (λ k. ¬ P k) (λ k. not_so (d k)) n)
  where
    holds : (k : ℕ) → ¬ ¬ P k → Dec (P k) → P k
    holds k f (yes p) = p
    holds k f (no g) = absurd (f g)

    go : Dec ((k : ℕ) × (k < n) × ¬ P k) → ((k : ℕ) → k < n → P k) ⊎ ((k : ℕ) × (k < n) × ¬ P k)
    go (yes h) = inr h
    go (no f) = inl (λ k l. holds k (λ g. f (k, l, g)) (d k))

-- Either some number less than n is the least number with the property P, or no number less than n has the property P.
first_below : (P : ℕ → Type 0) → ((k : ℕ) → Dec (P k)) → (n : ℕ)
    → ((k : ℕ) × (k < n) × P k × ((j : ℕ) → j < k → ¬ P j)) ⊎ ((j : ℕ) → j < n → ¬ P j)
first_below P d zero = inr (λ j l q. absurd (omega (arith, l)))
first_below P d (suc n) = go (first_below P d n) (d n)
  where
    go : ((k : ℕ) × (k < n) × P k × ((j : ℕ) → j < k → ¬ P j)) ⊎ ((j : ℕ) → j < n → ¬ P j) → Dec (P n)
        → ((k : ℕ) × (k < suc n) × P k × ((j : ℕ) → j < k → ¬ P j)) ⊎ ((j : ℕ) → j < suc n → ¬ P j)
    go (inl h) d' = inl (h.0, omega (arith, h.1), h.2, h.3)
    go (inr f) (yes p) = inl (n, omega arith, p, f)
    go (inr f) (no g) =
        inr (λ j l q. elim (cases_eq j n) [ inl e ↦ g (rw e at q) | inr e ↦ f j (omega (arith, l, e)) q ])

-- If the number n has the decidable property P, some number is the least number with the property P.
pub least_to : (P : ℕ → Type 0) → ((k : ℕ) → Dec (P k)) → (n : ℕ) → P n →
    (k : ℕ) × (k ≤ n) × P k × ((j : ℕ) → j < k → ¬ P j)
least_to P d n p = go (first_below P d n)
  where
    go : ((k : ℕ) × (k < n) × P k × ((j : ℕ) → j < k → ¬ P j)) ⊎ ((j : ℕ) → j < n → ¬ P j)
        → (k : ℕ) × (k ≤ n) × P k × ((j : ℕ) → j < k → ¬ P j)
    go (inl h) = (h.0, omega (arith, h.1), h.2, h.3)
    go (inr f) = (n, omega arith, p, f)

-- Suppose that an equivalence relation E on numbers is decidable. Then a function exists that gives the same value to
-- two numbers if and only if E relates them. This function maps each number to the least number in its class.
pub classes_exist : (E : ℕ → ℕ → Type 0) → ((s t : ℕ) → Dec (E s t)) → ((s : ℕ) → E s s) → ((s t : ℕ) → E s t → E t s)
    → ((s t u : ℕ) → E s t → E t u → E s u) → (new : ℕ → ℕ) × ((s t : ℕ) → (new s ≡ new t) ↔ E s t)
classes_exist E d r y c = (λ s. (least s).0, λ s t. (to s t, from s t))
  where
    least : (s : ℕ) → (k : ℕ) × (k ≤ s) × E s k × ((j : ℕ) → j < k → ¬ E s j)
    least s = least_to (E s) (d s) s (r s)

    to : (s t : ℕ) → (least s).0 ≡ (least t).0 → E s t
    to s t e = c s (least t).0 t (subst (E s) e (least s).2) (y t (least t).0 (least t).2)

    apart : (s t : ℕ) → E s t → (least s).0 < (least t).0 → ⊥
    apart s t h l = (least t).3 (least s).0 l (c t s (least s).0 (y s t h) (least s).2)

    from : (s t : ℕ) → E s t → (least s).0 ≡ (least t).0
    from s t h = elim (cases_order (least s).0 (least t).0) [
      | inl e ↦ e
      | inr f ↦ elim f [ inl l ↦ absurd (apart s t h l) | inr l ↦ absurd (apart t s (y s t h) l) ]
    ]

pub contains_here : {X : Type 0} (y : X) (xs : List X) → Contains (y ∷ xs) y
contains_here y xs = (0, omega arith, refl)

pub contains_there : {X : Type 0} (y : X) (xs : List X) (x : X) → Contains xs x → Contains (y ∷ xs) x
contains_there y xs x h = (suc h.0, omega (arith, h.1), h.2)

pub contains_cases : {X : Type 0} (y : X) (xs : List X) (x : X) → Contains (y ∷ xs) x → (y ≡ x) ⊎ Contains xs x
contains_cases y xs x (zero, l, e) = inl e
contains_cases y xs x (suc k, l, e) = inr (k, omega arith, e)

pub contains_none : {X : Type 0} (x : X) → ¬ Contains [] x
contains_none x h = absurd (omega (arith, h.1))

-- It is decidable whether some element of a list has the property P.
pub some_in : {X : Type 0} (P : X → Type 0) → ((x : X) → Dec (P x)) → (xs : List X) →
    Dec ((x : X) × Contains xs x × P x)
some_in P d [] = no (λ h. contains_none h.0 h.1)
some_in {X} P d (y ∷ xs) = go (d y) (some_in P d xs)
  where
    go : Dec (P y) → Dec ((x : X) × Contains xs x × P x) → Dec ((x : X) × Contains (y ∷ xs) x × P x)
    go (yes p) h = yes (y, contains_here y xs, p)
    go (no f) (yes h) = yes (h.0, contains_there y xs h.0 h.1, h.2)
    go (no f) (no g) =
        no (λ h. elim (contains_cases y xs h.0 h.1) [ inl e ↦ f (rw (← e) at h.2) | inr c ↦ g (h.0, c, h.2) ])

-- It is decidable whether all elements of a list have the property P.
pub each_in : {X : Type 0} (P : X → Type 0) → ((x : X) → Dec (P x)) → (xs : List X) →
    Dec ((x : X) → Contains xs x → P x)
each_in P d [] = yes (λ x c. absurd (contains_none x c))
each_in {X} P d (y ∷ xs) = go (d y) (each_in P d xs)
  where
    go : Dec (P y) → Dec ((x : X) → Contains xs x → P x) → Dec ((x : X) → Contains (y ∷ xs) x → P x)
    go (yes p) (yes f) = yes (λ x c. elim (contains_cases y xs x c) [ inl e ↦ rw e at p | inr c' ↦ f x c' ])
    go (yes p) (no g) = no (λ f. g (λ x c. f x (contains_there y xs x c)))
    go (no g) h = no (λ f. g (f y (contains_here y xs)))
