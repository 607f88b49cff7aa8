-- The functions in this file compute the states that can be reached from a state by given transitions. The function
-- `covers` then checks that the computed list is complete: no transition leads from a state in the list to a state
-- outside of the list.
use Rattle.std.proofs.Common.{◌≡◌, ℕ, zero, suc, Bool, true, false, not, eqb, cond, List, [], ◌∷◌, Contains, bytes_eq}
use Rattle.std.proofs.Common.{refl, subst, inl, inr}
use Rattle.std.proofs.lemmas.Bool.{eqb-true, eq-eqb}
use Rattle.theory.specs.System.{System, Transition, Step, Internal, Silent, AnyStep, Reachable, Along, Leads, internal}
use Rattle.theory.specs.Blocks.{Inert}
use Rattle.theory.proofs.CallerLemmas.{leads_on, leads_map, contains_here, contains_there, contains_cases}
use Rattle.theory.proofs.CallerLemmas.{contains_none}
use Rattle.tests_theory.proofs.Testing.{and_then, and_then_parts, or_else, or_else_cases, not_passes, every}
use Rattle.tests_theory.proofs.Testing.{every_passes, has, has_contains, contains_has, bytes_same, bytes_pass}

-- `Passing` holds if the function q returns true for some transition in the list es that leads from the state s to the
-- state t.
abbrev pub Passing : List Transition → (Transition → Bool) → ℕ → ℕ → Type 0
Passing es q s t =
    (x : List ℕ) × Contains es (record { source = s; label = x; target = t })
    × (q (record { source = s; label = x; target = t }) ≡ true)

-- `grown` goes through the list of transitions once, and adds states to the list xs. If the function q returns true for
-- a transition, and the source of the transition is already in xs, the target is added to xs.
abbrev pub grown : List Transition → (Transition → Bool) → List ℕ → List ℕ
grown [] q xs = xs
grown (e ∷ es) q xs =
    grown es q (cond (and_then (q e) (λ _. and_then (has xs e.source) (λ _. not (has xs e.target)))) (e.target ∷ xs) xs)

-- `reached` goes through the list of transitions k times, and returns the states that it has found. At first, it has
-- found only the state s. If the function q returns true for a transition whose source has been found, the function
-- also finds the target of this transition (`grown`).
abbrev pub reached : List Transition → (Transition → Bool) → ℕ → ℕ → List ℕ
reached es q zero s = s ∷ []
reached es q (suc k) s = grown es q (reached es q k s)

-- `closed` returns true if no transition for which the function q returns true leads from a state in the list xs to a
-- state outside of xs.
abbrev pub closed : List Transition → (Transition → Bool) → List ℕ → Bool
closed es q xs = every es (λ e. or_else (not (q e)) (λ _. or_else (not (has xs e.source)) (λ _. has xs e.target)))

module _ (all : List Transition) (q : Transition → Bool) (s : ℕ) where
  grown_leads :
      (es : List Transition) (xs : List ℕ) → ((e : Transition) → Contains es e → Contains all e) →
      ((u : ℕ) → Contains xs u → Leads (Passing all q) s u) → (u : ℕ) → Contains (grown es q xs) u →
      Leads (Passing all q) s u
  grown_leads [] xs among from u c = from u c
  grown_leads (e ∷ es) xs among from u c =
      grown_leads es (more test) (λ f d. among f (contains_there e es f d)) (further test refl) u c
    where
      test : Bool
      test = and_then (q e) (λ _. and_then (has xs e.source) (λ _. not (has xs e.target)))

      more : Bool → List ℕ
      more v = cond v (e.target ∷ xs) xs

      further : (v : Bool) → test ≡ v → (w : ℕ) → Contains (more v) w → Leads (Passing all q) s w
      further false h w d = from w d
      further true h w d = elim (contains_cases e.target xs w d) [
        | inl same ↦ (
            let parts = and_then_parts (q e) (λ _. and_then (has xs e.source) (λ _. not (has xs e.target))) h in
            let held = and_then_parts (has xs e.source) (λ _. not (has xs e.target)) parts.1 in
            let begin = from e.source (has_contains xs e.source held.0) in
            subst (Leads (Passing all q) s) same
            (leads_on (Passing all q) s e.source e.target begin (e.label, among e (contains_here e es), parts.0)))
        | inr d' ↦ from w d'
      ]

pub reached_leads : (es : List Transition) (q : Transition → Bool) (k s u : ℕ) → Contains (reached es q k s) u →
    Leads (Passing es q) s u
reached_leads es q zero s u c =
    elim (contains_cases s [] u c) [ inl e ↦ ([], e) | inr d ↦ absurd (contains_none u d) ]
reached_leads es q (suc k) s u c =
    grown_leads es q s es (reached es q k s) (λ e d. d) (λ v d. reached_leads es q k s v d) u c

-- `covers` returns true if the list xs contains the state s, and no transition for which the function q returns true
-- leads from a state in xs to a state outside of xs.
abbrev pub covers : List Transition → (Transition → Bool) → List ℕ → ℕ → Bool
covers es q xs s = and_then (has xs s) (λ _. closed es q xs)

pub covers_leads :
    (es : List Transition) (q : Transition → Bool) (xs : List ℕ) (s u : ℕ) →
    covers es q xs s ≡ true → Leads (Passing es q) s u → Contains xs u
covers_leads es q xs s u h path =
    let parts = and_then_parts (has xs s) (λ _. closed es q xs) h in
    go parts.1 s path.0 (has_contains xs s parts.0) path.1
  where
    go : closed es q xs ≡ true → (v : ℕ) (us : List ℕ) → Contains xs v → Along (Passing es q) v us u → Contains xs u
    go shut v [] c e = subst (Contains xs) e c
    go shut v (w ∷ us) c path' = go shut w us next path'.1
      where
        e : Transition
        e = record { source = v; label = path'.0.0; target = w }

        next : Contains xs w
        next =
            let test = every_passes es (λ f. or_else (not (q f)) (λ _. or_else (not (has xs f.source))
            (λ _. has xs f.target))) shut e path'.0.1 in
            elim (or_else_cases (not (q e)) (λ _. or_else (not (has xs v)) (λ _. has xs w)) test) [
              | inl n ↦ absurd (not_passes (q e) n path'.0.2)
              | inr r ↦ elim (or_else_cases (not (has xs v)) (λ _. has xs w) r) [
                | inl n ↦ absurd (not_passes (has xs v) n (contains_has xs v c))
                | inr d ↦ has_contains xs w d
              ]
            ]

-- `is_internal` returns true if the label of the transition e is the internal label.
abbrev pub is_internal : Transition → Bool
is_internal e = bytes_eq e.label internal

-- `is_inert` returns true if the transition e is inert: its label is the internal label, and its source and its target
-- share a block.
abbrev pub is_inert : (ℕ → ℕ) → Transition → Bool
is_inert blocks e = and_then (bytes_eq e.label internal) (λ _. eqb (blocks e.target) (blocks e.source))

-- `silent_from` returns the states to which paths of internal transitions lead from the state s.
abbrev pub silent_from : System → ℕ → List ℕ
silent_from A s = reached A.transitions is_internal A.states s

-- `inert_from` returns the states to which paths of inert transitions lead from the state s.
abbrev pub inert_from : System → (ℕ → ℕ) → ℕ → List ℕ
inert_from A blocks s = reached A.transitions (is_inert blocks) A.states s

-- `reachable` returns the states that can be reached from the initial state by a path.
abbrev pub reachable : System → List ℕ
reachable A = reached A.transitions (λ e. true) A.states A.first

step_at : (A : System) (s t : ℕ) (x y : List ℕ) → x ≡ y → Step A s x t → Step A s y t
step_at A s t x y e h = subst (λ z. Step A s z t) e h

pub silent_found : (A : System) (s u : ℕ) → Contains (silent_from A s) u → Silent A s u
silent_found A s u c =
    leads_map (Passing A.transitions is_internal) (Internal A)
    (λ v w r. step_at A v w r.0 internal (bytes_same r.0 internal r.2) r.1)
    s u (reached_leads A.transitions is_internal A.states s u c)

pub silent_only : (A : System) (s u : ℕ) → covers A.transitions is_internal (silent_from A s) s ≡ true → Silent A s u →
    Contains (silent_from A s) u
silent_only A s u h path =
    covers_leads A.transitions is_internal (silent_from A s) s u h
    (leads_map (Internal A) (Passing A.transitions is_internal)
    (λ v w r. (internal, r, bytes_pass internal internal refl)) s u path)

pub inert_found : (A : System) (blocks : ℕ → ℕ) (s u : ℕ) → Contains (inert_from A blocks s) u →
    Leads (Inert A blocks) s u
inert_found A blocks s u c =
    leads_map (Passing A.transitions (is_inert blocks)) (Inert A blocks)
    (λ v w r.
    let parts = and_then_parts (bytes_eq r.0 internal) (λ _. eqb (blocks w) (blocks v)) r.2 in
    (step_at A v w r.0 internal (bytes_same r.0 internal parts.0) r.1, eqb-true (blocks w) (blocks v) parts.1))
    s u (reached_leads A.transitions (is_inert blocks) A.states s u c)

pub inert_only :
    (A : System) (blocks : ℕ → ℕ) (s u : ℕ) → covers A.transitions (is_inert blocks) (inert_from A blocks s) s ≡ true →
    Leads (Inert A blocks) s u → Contains (inert_from A blocks s) u
inert_only A blocks s u h path =
    covers_leads A.transitions (is_inert blocks) (inert_from A blocks s) s u h
    (leads_map (Inert A blocks) (Passing A.transitions (is_inert blocks))
    (λ v w r. (internal, r.0, eq-eqb (blocks w) (blocks v) r.1)) s u path)

pub reachable_found : (A : System) (u : ℕ) → Contains (reachable A) u → Reachable A u
reachable_found A u c =
    leads_map (Passing A.transitions (λ e. true)) (AnyStep A) (λ v w r. (r.0, r.1)) A.first u
    (reached_leads A.transitions (λ e. true) A.states A.first u c)

pub reachable_only :
    (A : System) (u : ℕ) → covers A.transitions (λ e. true) (reachable A) A.first ≡ true → Reachable A u →
    Contains (reachable A) u
reachable_only A u h path =
    covers_leads A.transitions (λ e. true) (reachable A) A.first u h
    (leads_map (AnyStep A) (Passing A.transitions (λ e. true)) (λ v w r. (r.0, r.1, refl)) A.first u path)
