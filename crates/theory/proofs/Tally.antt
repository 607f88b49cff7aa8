-- The tally of a number n for a decidable property counts the numbers less than n that have this property. This file
-- proves how the tally depends on n and on the property.
use Rattle.std.proofs.Common.{◌≡◌, ◌↔◌, ℕ, List, zero, suc, ◌+◌, ◌<◌, ◌≤◌, [], ◌∷◌, ◌++◌, Contains, refl, sym, ◌∙◌, ap}
use Rattle.std.proofs.Common.{subst, inl, inr, arith, length-append}
use Rattle.std.proofs.lemmas.Bool.{cases_eq}
use Rattle.std.proofs.lemmas.List.Elements.{Contains-append_left, Contains-append_right, Contains-append_cases}
use Rattle.theory.specs.Quotient.{HowMany}
use Rattle.theory.proofs.Deciding.{contains_here, contains_cases, contains_none}
use Rattle.theory.proofs.RisingLists.{rising_on, same_length}

-- Returns 1 if P holds, and 0 if P does not hold.
abbrev pub one : {P : Type 0} → Dec P → ℕ
one (yes p) = 1
one (no f) = 0

one_le : {P Q : Type 0} → (P → Q) → (p : Dec P) (q : Dec Q) → one p ≤ one q
one_le f (yes p) (yes q) = omega arith
one_le f (yes p) (no g) = absurd (g (f p))
one_le f (no h) q = omega arith

pub one_yes : {P : Type 0} → P → (p : Dec P) → one p ≡ 1
one_yes x (yes p) = refl
one_yes x (no f) = absurd (f x)

pub one_no : {P : Type 0} → ¬ P → (p : Dec P) → one p ≡ 0
one_no f (yes p) = absurd (f p)
one_no f (no g) = refl

one_same : {P Q : Type 0} → P ↔ Q → (p : Dec P) (q : Dec Q) → one p ≡ one q
one_same f (yes p) (yes q) = refl
one_same f (yes p) (no g) = absurd (g (f.0 p))
one_same f (no h) (yes q) = absurd (h (f.1 q))
one_same f (no h) (no g) = refl

one_at_most : {P : Type 0} (p : Dec P) → one p ≤ 1
one_at_most (yes p) = omega arith
one_at_most (no f) = omega arith

one_more : {P Q : Type 0} → ¬ P → Q → (p : Dec P) (q : Dec Q) → one p < one q
one_more f x (yes p) q = absurd (f p)
one_more f x (no h) (yes q) = omega arith
one_more f x (no h) (no g) = absurd (g x)

-- Suppose that two properties hold for the same numbers. If the first property holds for exactly n numbers, then the
-- second property holds for exactly n numbers.
pub how_many_like : (P Q : ℕ → Type 0) (n : ℕ) → ((k : ℕ) → P k ↔ Q k) → HowMany P n → HowMany Q n
how_many_like P Q n like (xs, up, has, long) =
    (xs, up, λ k. (λ c. (like k).0 ((has k).0 c), λ q. (has k).1 ((like k).1 q)), long)

-- If a property holds for exactly m numbers, and the same property holds for exactly n numbers, then m and n are equal.
pub how_many_unique : (P : ℕ → Type 0) (m n : ℕ) → HowMany P m → HowMany P n → m ≡ n
how_many_unique P m n (xs, up, has_xs, long) (ys, vp, has_ys, tall) =
    sym long ∙ same_length xs ys up vp
    (λ k. (λ c. (has_ys k).1 ((has_xs k).0 c), λ c. (has_xs k).1 ((has_ys k).0 c))) ∙ tall

module _ (P : ℕ → Type 0) (d : (k : ℕ) → Dec (P k)) where
  -- Returns the tally of the number n, which counts the numbers less than n that have the property P.
  pub tally : ℕ → ℕ
  tally zero = 0
  tally (suc n) = tally n + one (d n)

  pub tally_zero : tally 0 ≡ 0
  unfolding tally
  tally_zero = refl

  pub tally_suc : (n : ℕ) → tally (suc n) ≡ tally n + one (d n)
  unfolding tally
  tally_suc n = refl

  -- Suppose that the list xs contains exactly the numbers less than n with the property P, and that n has this
  -- property. Then the list xs with n appended contains exactly the numbers less than n + 1 with the property P.
  list_on : (n : ℕ) (xs : List ℕ) → P n → ((k : ℕ) → Contains xs k ↔ (P k × (k < n)))
      → (k : ℕ) → Contains (xs ++ n ∷ []) k ↔ (P k × (k < suc n))
  list_on n xs p has k = (
    λ h. elim (Contains-append_cases xs (n ∷ []) k h) [
      | inl l ↦ (((has k).0 l).0, omega (arith, ((has k).0 l).1))
      | inr r ↦ elim (contains_cases n [] k r) [
        | inl e ↦ (subst P e p, omega (arith, e))
        | inr f ↦ absurd (contains_none k f)
      ]
    ],
    λ h. elim (cases_eq n k) [
      | inl e ↦ Contains-append_right xs (n ∷ []) k (subst (Contains (n ∷ [])) e (contains_here n []))
      | inr e ↦ Contains-append_left xs (n ∷ []) k ((has k).1 (h.0, omega (arith, h.1, e)))
    ],
  )

  -- Suppose that exactly c numbers less than n have the property P. If n has the property P, then exactly c + 1 numbers
  -- less than n + 1 have the property P. Otherwise, exactly c numbers less than n + 1 have the property P.
  pub tally_next : (n c : ℕ) (p : Dec (P n)) → HowMany (λ k. P k × (k < n)) c →
      HowMany (λ k. P k × (k < suc n)) (c + one p)
  tally_next n c (yes p) (xs, up, has, long) = (
    xs ++ n ∷ [],
    rising_on xs n up (λ k h. ((has k).0 h).1),
    list_on n xs p has,
    length-append xs (n ∷ []) ∙ ap (λ z. z + 1) long,
  )
  tally_next n c (no f) (xs, up, has, long) = (
    xs,
    up,
    λ k. (
      λ h. (((has k).0 h).0, omega (arith, ((has k).0 h).1)),
      λ h. elim (cases_eq k n) [
        | inl e ↦ absurd (f (subst P e h.0))
        | inr e ↦ (has k).1 (h.0, omega (arith, h.1, e))
      ],
    ),
    omega (arith, long),
  )

  -- The value `tally n` is correct: exactly `tally n` numbers less than n have the property P.
  pub tallied : (n : ℕ) → HowMany (λ k. P k × (k < n)) (tally n)
  unfolding tally
  tallied zero = (
    [],
    λ k l. absurd (omega (arith, l)),
    λ k. (λ h. absurd (contains_none k h), λ h. absurd (omega (arith, h.1))),
    refl,
  )
  tallied (suc n) = tally_next n (tally n) (d n) (tallied n)

  -- If exactly c numbers less than n have the property P, then `tally n` equals c.
  pub tally_is : (n c : ℕ) → HowMany (λ k. P k × (k < n)) c → c ≡ tally n
  tally_is n c many = how_many_unique (λ k. P k × (k < n)) c (tally n) many (tallied n)

  tally_up : (n : ℕ) → P n → tally (suc n) ≡ suc (tally n)
  unfolding tally
  tally_up n p = (let up : one (d n) ≡ 1 = one_yes p (d n) in omega (arith, up))

  tally_more : (m n : ℕ) → m ≤ n → tally m ≤ tally n
  unfolding tally
  tally_more m zero l = (let e : 0 ≡ m = omega (arith, l) in subst (λ k. tally k ≤ tally 0) e (omega arith))
  tally_more m (suc n) l = elim (cases_eq m (suc n)) [
    | inl e ↦ subst (λ k. tally k ≤ tally (suc n)) (sym e) (omega arith)
    | inr e ↦ (let rest : tally m ≤ tally n = tally_more m n (omega (arith, l, e)) in omega (arith, rest))
  ]

  -- Let `tally n` be the number of numbers less than n with the property P. If m has the property P and is less than n,
  -- then `tally m` is less than `tally n`.
  pub tally_less : (m n : ℕ) → P m → m < n → tally m < tally n
  tally_less m n p l =
      let step : tally (suc m) ≤ tally n = tally_more (suc m) n (omega (arith, l)) in
      omega (arith, step, tally_up m p)

  -- Let `tally n` be the number of numbers less than n with the property P. If j is less than `tally n`, then some
  -- number k less than n has the property P, and `tally k` equals j.
  pub tally_reached : (n j : ℕ) → j < tally n → (k : ℕ) × (k < n) × P k × (tally k ≡ j)
  unfolding tally
  tally_reached zero j l = absurd (omega (arith, l))
  tally_reached (suc n) j l = go (tally_reached n j) (d n) l
    where
      further : (k : ℕ) × (k < n) × P k × (tally k ≡ j) → (k : ℕ) × (k < suc n) × P k × (tally k ≡ j)
      further h = (h.0, omega (arith, h.1), h.2, h.3)

      go : (j < tally n → (k : ℕ) × (k < n) × P k × (tally k ≡ j)) →
          (x : Dec (P n)) → j < tally n + one x → (k : ℕ) × (k < suc n) × P k × (tally k ≡ j)
      go rest (yes p) low = elim (cases_eq j (tally n)) [
        | inl e ↦ (n, omega arith, p, sym e)
        | inr e ↦ further (rest (omega (arith, low, e)))
      ]
      go rest (no f) low = further (rest (omega (arith, low)))

pub tally_at_most : (P : ℕ → Type 0) (d : (k : ℕ) → Dec (P k)) (n : ℕ) → tally P d n ≤ n
unfolding tally
tally_at_most P d zero = omega arith
tally_at_most P d (suc n) = omega (arith, tally_at_most P d n, one_at_most (d n))

pub tally_all : (P : ℕ → Type 0) (p : (k : ℕ) → Dec (P k)) (n : ℕ) → ((k : ℕ) → k < n → P k) → tally P p n ≡ n
unfolding tally
tally_all P p zero f = refl
tally_all P p (suc n) f =
    omega (arith, tally_all P p n (λ k l. f k (omega (arith, l))), one_yes (f n (omega arith)) (p n))

pub tally_none : (P : ℕ → Type 0) (p : (k : ℕ) → Dec (P k)) (n : ℕ) → ((k : ℕ) → k < n → ¬ P k) → tally P p n ≡ 0
unfolding tally
tally_none P p zero f = refl
tally_none P p (suc n) f =
    omega (arith, tally_none P p n (λ k l. f k (omega (arith, l))), one_no (f n (omega arith)) (p n))

module _ (P Q : ℕ → Type 0) (p : (k : ℕ) → Dec (P k)) (q : (k : ℕ) → Dec (Q k)) where
  -- The tally of a number n for a property counts the numbers less than n that have this property. Suppose that each
  -- number less than n with the property P has the property Q as well. Then the tally of n for P is at most the tally
  -- of n for Q.
  pub tally_le : (n : ℕ) → ((k : ℕ) → k < n → P k → Q k) → tally P p n ≤ tally Q q n
  unfolding tally
  tally_le zero f = omega arith
  tally_le (suc n) f =
      omega (arith, tally_le n (λ k l. f k (omega (arith, l))), one_le (f n (omega arith)) (p n) (q n))

  -- The tally of a number n for a property counts the numbers less than n that have this property. Suppose that each
  -- number less than n with the property P has the property Q as well, and that some number less than n has the
  -- property Q but not the property P. Then the tally of n for P is less than the tally of n for Q.
  pub tally_greater : (n : ℕ) → ((k : ℕ) → k < n → P k → Q k) → (k : ℕ) → k < n → ¬ P k → Q k →
      tally P p n < tally Q q n
  unfolding tally
  tally_greater zero f k l no_p h = absurd (omega (arith, l))
  tally_greater (suc n) f k l no_p h = elim (cases_eq k n) [
    | inl e ↦ omega (
      arith,
      tally_le n (λ j m. f j (omega (arith, m))),
      one_more (subst (λ x. ¬ P x) e no_p) (subst Q e h) (p n) (q n),
    )
    | inr e ↦ omega (
      arith,
      tally_greater n (λ j m. f j (omega (arith, m))) k (omega (arith, l, e)) no_p h,
      one_le (f n (omega arith)) (p n) (q n),
    )
  ]

  -- The tally of a number n for a property counts the numbers less than n that have this property. Suppose that the
  -- properties P and Q hold for the same numbers less than n. Then the tally of n for P equals the tally of n for Q.
  pub tally_same : (n : ℕ) → ((k : ℕ) → k < n → P k ↔ Q k) → tally P p n ≡ tally Q q n
  unfolding tally
  tally_same zero f = refl
  tally_same (suc n) f =
      let rest : tally P p n ≡ tally Q q n = tally_same n (λ k l. f k (omega (arith, l))) in
      let top : one (p n) ≡ one (q n) = one_same (f n (omega arith)) (p n) (q n) in
      omega (arith, rest, top)

  -- The tally of a number n for a property counts the numbers less than n that have this property. Suppose that the
  -- number x is less than n, and that the property Q but not the property P holds for x. Suppose also that, among all
  -- other numbers less than n, P and Q hold for the same numbers. Then the tally of n for Q exceeds the tally of n for
  -- P by 1.
  pub tally_one_more : (n x : ℕ) → x < n → ¬ P x → Q x → ((k : ℕ) → k < n → ¬ (k ≡ x) → P k ↔ Q k)
      → tally Q q n ≡ suc (tally P p n)
  unfolding tally
  tally_one_more zero x l no_p h f = absurd (omega (arith, l))
  tally_one_more (suc n) x l no_p h f = elim (cases_eq x n) [
    | inl e ↦
        let rest : tally P p n ≡ tally Q q n = tally_same n (λ k m. f k (omega (arith, m)) (omega (arith, m, e))) in
        let without : one (p n) ≡ 0 = one_no (subst (λ y. ¬ P y) e no_p) (p n) in
        let with : one (q n) ≡ 1 = one_yes (subst Q e h) (q n) in
        omega (arith, rest, without, with)
    | inr e ↦
        let rest : tally Q q n ≡ suc (tally P p n) =
        tally_one_more n x (omega (arith, l, e)) no_p h (λ k m. f k (omega (arith, m))) in
        let top : one (p n) ≡ one (q n) = one_same (f n (omega arith) (omega (arith, e))) (p n) (q n) in
        omega (arith, rest, top)
  ]
