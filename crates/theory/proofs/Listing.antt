-- Let P be a decidable property of pairs of numbers. This file builds the list of all pairs with the property P whose
-- numbers are both below a bound.
use Rattle.std.proofs.Common.{◌≡◌, ◌↔◌, ℕ, zero, suc, ◌<◌, List, [], ◌∷◌, ◌++◌, Contains, refl, subst, inl, inr, arith}
use Rattle.std.proofs.lemmas.Bool.{cases_eq}
use Rattle.std.proofs.lemmas.List.Elements.{Contains-append_left, Contains-append_right, Contains-append_cases}
use Rattle.theory.specs.Bisimulation.{Pairs}
use Rattle.theory.proofs.Deciding.{contains_here, contains_cases, contains_none}

-- Let f be a function that maps numbers to lists. Then some list contains exactly the elements of the lists `f k` for
-- all k less than n.
gathered : {X : Type 0} (f : ℕ → List X) (n : ℕ) →
    (xs : List X) × ((x : X) → Contains xs x ↔ ((k : ℕ) × (k < n) × Contains (f k) x))
gathered f zero = ([], λ x. (λ c. absurd (contains_none x c), λ h. absurd (omega (arith, h.1))))
gathered {X} f (suc n) = go (gathered f n)
  where
    go : (xs : List X) × ((x : X) → Contains xs x ↔ ((k : ℕ) × (k < n) × Contains (f k) x))
        → (xs : List X) × ((x : X) → Contains xs x ↔ ((k : ℕ) × (k < suc n) × Contains (f k) x))
    go (xs, h) = (
      xs ++ f n,
      λ x. (
        λ c. elim (Contains-append_cases xs (f n) x c) [
          | inl l ↦ (((h x).0 l).0, omega (arith, ((h x).0 l).1), ((h x).0 l).2)
          | inr r ↦ (n, omega arith, r)
        ],
        λ g. elim (cases_eq g.0 n) [
          | inl e ↦ Contains-append_right xs (f n) x (subst (λ k. Contains (f k) x) e g.2)
          | inr e ↦ Contains-append_left xs (f n) x ((h x).1 (g.0, omega (arith, g.1, e), g.2))
        ],
      ),
    )

-- Returns the list that contains only the element y if P holds, and the empty list if P does not hold.
alone : {X : Type 0} {P : Type 0} (y : X) → Dec P → (xs : List X) × ((x : X) → Contains xs x ↔ ((y ≡ x) × P))
alone {X} {P} y (yes p) = (y ∷ [], λ x. (to x, λ h. subst (Contains (y ∷ [])) h.0 (contains_here y [])))
  where
    to : (x : X) → Contains (y ∷ []) x → (y ≡ x) × P
    to x c = elim (contains_cases y [] x c) [ inl e ↦ (e, p) | inr f ↦ absurd (contains_none x f) ]
alone y (no f) = ([], λ x. (λ c. absurd (contains_none x c), λ h. absurd (f h.1)))

-- If the property P of pairs is decidable, some list contains exactly the pairs of numbers less than n that have this
-- property.
pub pairs_listed : (n : ℕ) (P : ℕ → ℕ → Type 0) → ((s t : ℕ) → Dec (P s t))
    → (pairs : List (ℕ × ℕ)) × ((s t : ℕ) → Pairs pairs s t ↔ ((s < n) × (t < n) × P s t))
pairs_listed n P d = (whole.0, λ s t. (to s t, from s t))
  where
    cell : (s t : ℕ) → (xs : List (ℕ × ℕ)) × ((x : ℕ × ℕ) → Contains xs x ↔ (((s, t) ≡ x) × P s t))
    cell s t = alone (s, t) (d s t)

    row : (s : ℕ) → (xs : List (ℕ × ℕ)) × ((x : ℕ × ℕ) → Contains xs x ↔ ((t : ℕ) × (t < n) × Contains (cell s t).0 x))
    row s = gathered (λ t. (cell s t).0) n

    whole : (xs : List (ℕ × ℕ)) × ((x : ℕ × ℕ) → Contains xs x ↔ ((s : ℕ) × (s < n) × Contains (row s).0 x))
    whole = gathered (λ s. (row s).0) n

    to : (s t : ℕ) → Contains whole.0 (s, t) → (s < n) × (t < n) × P s t
    to s t c =
        let in_row : (x : ℕ) × (x < n) × Contains (row x).0 (s, t) = (whole.1 (s, t)).0 c in
        let in_cell : (y : ℕ) × (y < n) × Contains (cell in_row.0 y).0 (s, t) = ((row in_row.0).1 (s, t)).0 in_row.2 in
        let it : ((in_row.0, in_cell.0) ≡ (s, t)) × P in_row.0 in_cell.0 =
        ((cell in_row.0 in_cell.0).1 (s, t)).0 in_cell.2 in
        subst (λ (x : ℕ × ℕ). (x.0 < n) × (x.1 < n) × P x.0 x.1) it.0 (in_row.1, in_cell.1, it.1)

    from : (s t : ℕ) → (s < n) × (t < n) × P s t → Contains whole.0 (s, t)
    from s t h = (whole.1 (s, t)).1 (s, h.0, ((row s).1 (s, t)).1 (t, h.1, ((cell s t).1 (s, t)).1 (refl, h.2)))
