-- Boolean tests of lists, numbers and transitions. Each test is a function that returns a `Bool`, so that the prover
-- can prove facts about a given system by evaluating the test. The lemmas state what follows if a test returns true.
use Rattle.std.proofs.Common.{◌≡◌, ◌≢◌, ◌⊎◌, ℕ, zero, suc, ◌<◌, Bool, true, false, not, eqb, List, [], ◌∷◌, Contains}
use Rattle.std.proofs.Common.{bytes_eq, refl, sym, subst, inl, inr, arith}
use Rattle.std.proofs.lemmas.Bool.{eqb-true, eq-eqb, both_ways, not-true, cases_eq}
use Rattle.std.proofs.lemmas.Slice.Eq.{bytes_eq-Decides}
use Rattle.theory.specs.System.{Transition}
use Rattle.theory.proofs.CallerLemmas.{contains_here, contains_there, contains_cases, contains_none}
pub mod Systems
pub mod Reaching
pub mod Matching
pub mod Signing
pub mod Splitting
pub mod Rising
pub mod Leading
pub mod Numbering
pub mod Dividing
pub mod Census
pub mod Repeating
pub mod Told
pub mod Refusing

-- `and_then` returns true if the first argument is true and the second argument, which is a function, returns true. The
-- function is called only if the first argument is true.
abbrev pub and_then : Bool → (Unit {0} → Bool) → Bool
and_then true f = f tt
and_then false f = false

-- `or_else` returns true if the first argument is true or the second argument, which is a function, returns true. The
-- function is called only if the first argument is false.
abbrev pub or_else : Bool → (Unit {0} → Bool) → Bool
or_else true f = true
or_else false f = f tt

pub and_then_parts : (x : Bool) (f : Unit {0} → Bool) → and_then x f ≡ true → (x ≡ true) × (f tt ≡ true)
and_then_parts true f h = (refl, h)
and_then_parts false f h = cc

pub or_else_cases : (x : Bool) (f : Unit {0} → Bool) → or_else x f ≡ true → (x ≡ true) ⊎ (f tt ≡ true)
or_else_cases true f h = inl refl
or_else_cases false f h = inr h

pub and_then_from : (x : Bool) (f : Unit {0} → Bool) → x ≡ true → f tt ≡ true → and_then x f ≡ true
and_then_from true f h k = k
and_then_from false f h k = cc

pub or_else_left : (x : Bool) (f : Unit {0} → Bool) → x ≡ true → or_else x f ≡ true
or_else_left true f h = refl
or_else_left false f h = cc

pub or_else_right : (x : Bool) (f : Unit {0} → Bool) → f tt ≡ true → or_else x f ≡ true
or_else_right true f h = refl
or_else_right false f h = h

pub not_passes : (x : Bool) → not x ≡ true → x ≢ true
not_passes x h e = both_ways x (not-true x h) e

-- `every` returns true if the function p returns true for each element of the list.
abbrev pub every : {X : Type 0} → List X → (X → Bool) → Bool
every [] p = true
every (x ∷ xs) p = and_then (p x) (λ _. every xs p)

pub every_passes : {X : Type 0} (xs : List X) (p : X → Bool) → every xs p ≡ true → (x : X) → Contains xs x → p x ≡ true
every_passes [] p h x c = absurd (contains_none x c)
every_passes (y ∷ xs) p h x c =
    let parts = and_then_parts (p y) (λ _. every xs p) h in
    elim (contains_cases y xs x c) [ inl e ↦ subst (λ z. p z ≡ true) e parts.0 | inr d ↦ every_passes xs p parts.1 x d ]

-- `some` returns true if the function p returns true for at least one element of the list.
abbrev pub some : {X : Type 0} → List X → (X → Bool) → Bool
some [] p = false
some (x ∷ xs) p = or_else (p x) (λ _. some xs p)

pub some_passes : {X : Type 0} (xs : List X) (p : X → Bool) → some xs p ≡ true → (x : X) × Contains xs x × (p x ≡ true)
some_passes [] p h = cc
some_passes (y ∷ xs) p h = elim (or_else_cases (p y) (λ _. some xs p) h) [
  | inl e ↦ (y, contains_here y xs, e)
  | inr e ↦ (let rest = some_passes xs p e in (rest.0, contains_there y xs rest.0 rest.1, rest.2))
]

pub some_from : {X : Type 0} (xs : List X) (p : X → Bool) (x : X) → Contains xs x → p x ≡ true → some xs p ≡ true
some_from [] p x c h = absurd (contains_none x c)
some_from (y ∷ xs) p x c h = elim (contains_cases y xs x c) [
  | inl e ↦ or_else_left (p y) (λ _. some xs p) (subst (λ z. p z ≡ true) (sym e) h)
  | inr d ↦ or_else_right (p y) (λ _. some xs p) (some_from xs p x d h)
]

-- `has` returns true if the list xs contains the number x.
abbrev pub has : List ℕ → ℕ → Bool
has xs x = some xs (λ y. eqb y x)

pub has_contains : (xs : List ℕ) (x : ℕ) → has xs x ≡ true → Contains xs x
has_contains xs x h =
    let found = some_passes xs (λ y. eqb y x) h in
    subst (Contains xs) (eqb-true found.0 x found.2) found.1

pub contains_has : (xs : List ℕ) (x : ℕ) → Contains xs x → has xs x ≡ true
contains_has xs x c = some_from xs (λ y. eqb y x) x c (eq-eqb x x refl)

-- `each_step` returns true if the function p returns true for the label and the target of each transition in the list
-- es that has the source s.
abbrev pub each_step : List Transition → ℕ → (List ℕ → ℕ → Bool) → Bool
each_step es s p = every es (λ e. or_else (not (eqb e.source s)) (λ _. p e.label e.target))

pub each_step_passes :
    (es : List Transition) (s : ℕ) (p : List ℕ → ℕ → Bool) → each_step es s p ≡ true →
    (x : List ℕ) (t : ℕ) → Contains es (record { source = s; label = x; target = t }) → p x t ≡ true
each_step_passes es s p h x t step =
    let e : Transition = record { source = s; label = x; target = t } in
    let test = every_passes es (λ e. or_else (not (eqb e.source s)) (λ _. p e.label e.target)) h e step in
    elim (or_else_cases (not (eqb s s)) (λ _. p x t) test) [
      | inl n ↦ absurd (not_passes (eqb s s) n (eq-eqb s s refl))
      | inr q ↦ q
    ]

-- `some_step` returns true if the function p returns true for the label and the target of some transition in the list
-- es that has the source s.
abbrev pub some_step : List Transition → ℕ → (List ℕ → ℕ → Bool) → Bool
some_step es s p = some es (λ e. and_then (eqb e.source s) (λ _. p e.label e.target))

pub some_step_passes :
    (es : List Transition) (s : ℕ) (p : List ℕ → ℕ → Bool) → some_step es s p ≡ true →
    (x : List ℕ) × (t : ℕ) × Contains es (record { source = s; label = x; target = t }) × (p x t ≡ true)
some_step_passes es s p h =
    let found = some_passes es (λ e. and_then (eqb e.source s) (λ _. p e.label e.target)) h in
    let e = found.0 in
    let parts = and_then_parts (eqb e.source s) (λ _. p e.label e.target) found.2 in
    let same = eqb-true e.source s parts.0 in (
      e.label,
      e.target,
      subst (λ z. Contains es (record { source = z; label = e.label; target = e.target })) same found.1,
      parts.1,
    )

pub bytes_same : (x y : List ℕ) → bytes_eq x y ≡ true → x ≡ y
bytes_same x y h = (bytes_eq-Decides x y).0 h

pub bytes_pass : (x y : List ℕ) → x ≡ y → bytes_eq x y ≡ true
bytes_pass x y e = (bytes_eq-Decides x y).1 e

pub every_from : {X : Type 0} (xs : List X) (p : X → Bool) → ((x : X) → Contains xs x → p x ≡ true) → every xs p ≡ true
every_from [] p h = refl
every_from (y ∷ xs) p h =
    and_then_from (p y) (λ _. every xs p) (h y (contains_here y xs))
    (every_from xs p (λ x c. h x (contains_there y xs x c)))

-- `each_below` returns true if the function p returns true for every number less than n.
abbrev pub each_below : ℕ → (ℕ → Bool) → Bool
each_below zero p = true
each_below (suc n) p = and_then (p n) (λ _. each_below n p)

pub each_below_passes : (n : ℕ) (p : ℕ → Bool) → each_below n p ≡ true → (k : ℕ) → k < n → p k ≡ true
each_below_passes zero p h k l = absurd (omega (arith, l))
each_below_passes (suc n) p h k l =
    let parts = and_then_parts (p n) (λ _. each_below n p) h in
    elim (cases_eq k n) [
      | inl e ↦ subst (λ z. p z ≡ true) (sym e) parts.0
      | inr d ↦ each_below_passes n p parts.1 k (omega (arith, l, d))
    ]

-- `same_answer` returns true if both arguments are true, or both arguments are false.
abbrev pub same_answer : Bool → Bool → Bool
same_answer true y = y
same_answer false y = not y

pub same_answer_there : (x y : Bool) → same_answer x y ≡ true → x ≡ true → y ≡ true
same_answer_there true y h e = h
same_answer_there false y h e = cc

pub same_answer_back : (x y : Bool) → same_answer x y ≡ true → y ≡ true → x ≡ true
same_answer_back true y h e = refl
same_answer_back false y h e = absurd (not_passes y h e)
