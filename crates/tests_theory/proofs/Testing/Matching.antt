-- Tests whether a given list of pairs is a bisimulation, and whether two given states are not bisimilar.
use Rattle.std.proofs.Common.{◌≡◌, ℕ, zero, suc, Bool, true, false, not, eqb, ltb, ltb-true, List, Contains, bytes_eq}
use Rattle.std.proofs.Common.{refl, sym, subst, inl, inr}
use Rattle.std.proofs.lemmas.Bool.{eqb-true}
use Rattle.theory.specs.System.{System, Step, internal}
use Rattle.theory.specs.Bisimulation.{Matches, IsBisimulation, Pairs, Bisimilar}
use Rattle.theory.specs.declared.relation.Relation.{Relation}
use Rattle.theory.specs.declared.relation.Relation.TheVariants.{Strong, Branching}
use Rattle.tests_theory.specs.Examples.{AreApart}
use Rattle.tests_theory.proofs.Testing.{and_then, and_then_parts, or_else, or_else_cases, not_passes, every}
use Rattle.tests_theory.proofs.Testing.{every_passes, some, some_passes, each_step, each_step_passes, some_step}
use Rattle.tests_theory.proofs.Testing.{some_step_passes, bytes_same, bytes_pass}
use Rattle.tests_theory.proofs.Testing.Systems.{is_system, system_passes}
use Rattle.tests_theory.proofs.Testing.Reaching.{covers, is_internal, silent_from, silent_found, silent_only}

-- `has_pair` returns true if the list `pairs` contains the pair (s, t) of two states.
abbrev pub has_pair : List (ℕ × ℕ) → ℕ → ℕ → Bool
has_pair pairs s t = some pairs (λ p. and_then (eqb p.0 s) (λ _. eqb p.1 t))

pub has_pair_contains : (pairs : List (ℕ × ℕ)) (s t : ℕ) → has_pair pairs s t ≡ true → Pairs pairs s t
has_pair_contains pairs s t h =
    let found = some_passes pairs (λ p. and_then (eqb p.0 s) (λ _. eqb p.1 t)) h in
    let parts = and_then_parts (eqb found.0.0 s) (λ _. eqb found.0.1 t) found.2 in
    subst (λ z. Pairs pairs z t) (eqb-true found.0.0 s parts.0)
    (subst (λ z. Pairs pairs found.0.0 z) (eqb-true found.0.1 t parts.1) found.1)

-- `replies` returns true if the state t of B has a transition with the label x to some state t' such that the function
-- r returns true for the states s' and t'.
abbrev pub replies : System → (ℕ → ℕ → Bool) → ℕ → List ℕ → ℕ → Bool
replies B r t x s' = some_step B.transitions t (λ y t'. and_then (bytes_eq x y) (λ _. r s' t'))

replies_hold :
    (B : System) (r : ℕ → ℕ → Bool) (R : ℕ → ℕ → Type 0) → ((s t : ℕ) → r s t ≡ true → R s t) →
    (t : ℕ) (x : List ℕ) (s' : ℕ) → replies B r t x s' ≡ true → (t' : ℕ) × Step B t x t' × R s' t'
replies_hold B r R sound t x s' h =
    let found = some_step_passes B.transitions t (λ y t'. and_then (bytes_eq x y) (λ _. r s' t')) h in
    let parts = and_then_parts (bytes_eq x found.0) (λ _. r s' found.1) found.3 in
    (found.1, subst (λ z. Step B t z found.1) (sym (bytes_same x found.0 parts.0)) found.2, sound s' found.1 parts.1)

-- A silent path is a path of internal transitions. The function r tests whether two states are related. `replies_later`
-- returns true if a silent path of B leads from the state t to some state t1 that is related to the state s, and t1 has
-- a transition with the label x to a state that is related to the state s' (`replies`).
abbrev pub replies_later : System → (ℕ → ℕ → Bool) → ℕ → ℕ → List ℕ → ℕ → Bool
replies_later B r s t x s' = some (silent_from B t) (λ t1. and_then (r s t1) (λ _. replies B r t1 x s'))

-- `answers` returns true if the state t of B matches each transition of the state s of A. In this test, two states
-- count as related if the function r returns true for them.
abbrev pub answers : Relation → System → System → (ℕ → ℕ → Bool) → ℕ → ℕ → Bool
answers Strong A B r s t = each_step A.transitions s (λ x s'. replies B r t x s')
answers Branching A B r s t = each_step A.transitions s (λ x s'.
    or_else (and_then (bytes_eq x internal) (λ _. r s' t)) (λ _. replies_later B r s t x s'))

pub answers_hold :
    (rel : Relation) (A B : System) (r : ℕ → ℕ → Bool) (R : ℕ → ℕ → Type 0) → ((s t : ℕ) → r s t ≡ true → R s t) →
    (s t : ℕ) → answers rel A B r s t ≡ true → Matches rel A B R s t
answers_hold Strong A B r R sound s t h = λ x s' step.
    replies_hold B r R sound t x s' (each_step_passes A.transitions s (λ x s'. replies B r t x s') h x s' step)
answers_hold Branching A B r R sound s t h = λ x s' step.
    let passed = each_step_passes A.transitions s (λ x s'.
    or_else (and_then (bytes_eq x internal) (λ _. r s' t)) (λ _. replies_later B r s t x s')) h x s' step in
    elim (or_else_cases (and_then (bytes_eq x internal) (λ _. r s' t)) (λ _. replies_later B r s t x s') passed) [
      | inl q ↦ (
          let parts = and_then_parts (bytes_eq x internal) (λ _. r s' t) q in
          inl (bytes_same x internal parts.0, sound s' t parts.1))
      | inr q ↦ (
          let found = some_passes (silent_from B t) (λ t1. and_then (r s t1) (λ _. replies B r t1 x s')) q in
          let parts = and_then_parts (r s found.0) (λ _. replies B r found.0 x s') found.2 in
          let last = replies_hold B r R sound found.0 x s' parts.1 in
          inr (found.0, last.0, silent_found B t found.0 found.1, last.1, sound s found.0 parts.0, last.2))
    ]

-- `is_bisimulation` returns true if the list `pairs` is a bisimulation between A and B.
abbrev pub is_bisimulation : Relation → System → System → List (ℕ × ℕ) → Bool
is_bisimulation rel A B pairs =
    every pairs (λ p.
    and_then (ltb p.0 A.states) (λ _. and_then (ltb p.1 B.states) (λ _.
    and_then (answers rel A B (has_pair pairs) p.0 p.1) (λ _.
    answers rel B A (λ y x. has_pair pairs x y) p.1 p.0))))

-- If `is_bisimulation` returns true, the list `pairs` is a bisimulation between A and B.
pub bisimulation_passes :
    (rel : Relation) (A B : System) (pairs : List (ℕ × ℕ)) → is_bisimulation rel A B pairs ≡ true →
    IsBisimulation rel A B (Pairs pairs)
bisimulation_passes rel A B pairs h = record {
  states = λ s t c. (ltb-true s A.states (first s t c).0, ltb-true t B.states (second s t c).0);
  forth = λ s t c. answers_hold rel A B (has_pair pairs) (Pairs pairs) (has_pair_contains pairs) s t (third s t c).0;
  back = λ s t c. answers_hold rel B A (λ y x. has_pair pairs x y) (λ y x. Pairs pairs x y)
      (λ y x e. has_pair_contains pairs x y e) t s (third s t c).1;
}
  where
    forward : ℕ → ℕ → Bool
    forward s t = answers rel A B (has_pair pairs) s t

    backward : ℕ → ℕ → Bool
    backward s t = answers rel B A (λ y x. has_pair pairs x y) t s

    first : (s t : ℕ) → Pairs pairs s t →
        (ltb s A.states ≡ true) × (and_then (ltb t B.states) (λ _. and_then (forward s t) (λ _. backward s t)) ≡ true)
    first s t c = and_then_parts (ltb s A.states) (λ _. and_then (ltb t B.states)
        (λ _. and_then (forward s t) (λ _. backward s t)))
        (every_passes pairs (λ p.
        and_then (ltb p.0 A.states) (λ _. and_then (ltb p.1 B.states) (λ _.
        and_then (answers rel A B (has_pair pairs) p.0 p.1) (λ _.
        answers rel B A (λ y x. has_pair pairs x y) p.1 p.0)))) h (s, t) c)

    second : (s t : ℕ) → Pairs pairs s t → (ltb t B.states ≡ true) × (and_then (forward s t) (λ _. backward s t) ≡ true)
    second s t c = and_then_parts (ltb t B.states) (λ _. and_then (forward s t) (λ _. backward s t)) (first s t c).1

    third : (s t : ℕ) → Pairs pairs s t → (forward s t ≡ true) × (backward s t ≡ true)
    third s t c = and_then_parts (forward s t) (λ _. backward s t) (second s t c).1

pub bisimilar_passes :
    (rel : Relation) (A B : System) (pairs : List (ℕ × ℕ)) (s t : ℕ) →
    is_bisimulation rel A B pairs ≡ true → has_pair pairs s t ≡ true → Bisimilar rel A s B t
bisimilar_passes rel A B pairs s t h k = (pairs, bisimulation_passes rel A B pairs h, has_pair_contains pairs s t k)

-- `avoids` is about two states s' and t. It returns true if the function d returns true for s' and t' whenever t has a
-- transition with the label x to a state t'. In this file, d is a function that returns true only for two states that
-- are known not to be bisimilar.
abbrev pub avoids : System → (ℕ → ℕ → Bool) → ℕ → List ℕ → ℕ → Bool
avoids B d t x s' = each_step B.transitions t (λ y t'. or_else (not (bytes_eq x y)) (λ _. d s' t'))

avoids_holds :
    (B : System) (d : ℕ → ℕ → Bool) (R : ℕ → ℕ → Type 0) → ((s t : ℕ) → d s t ≡ true → R s t → ⊥) →
    (t : ℕ) (x : List ℕ) (s' : ℕ) → avoids B d t x s' ≡ true → (t' : ℕ) → Step B t x t' → R s' t' → ⊥
avoids_holds B d R apart t x s' h t' step related =
    let test = each_step_passes B.transitions t (λ y t'. or_else (not (bytes_eq x y)) (λ _. d s' t')) h x t' step in
    elim (or_else_cases (not (bytes_eq x x)) (λ _. d s' t') test) [
      | inl n ↦ not_passes (bytes_eq x x) n (bytes_pass x x refl)
      | inr q ↦ apart s' t' q related
    ]

-- A silent path is a path of internal transitions. The function d returns true only for two states that are known not
-- to be bisimilar. `avoids_later` returns true if, for each state t1 to which a silent path leads from t, `d s t1` or
-- `avoids B d t1 x s'` is true. In both cases, t cannot match the transition s -x-> s' by a silent path to t1 and a
-- transition of t1.
abbrev pub avoids_later : System → (ℕ → ℕ → Bool) → ℕ → ℕ → List ℕ → ℕ → Bool
avoids_later B d s t x s' = every (silent_from B t) (λ t1. or_else (d s t1) (λ _. avoids B d t1 x s'))

-- `no_answer` returns true if the state t cannot match the transition s -x-> s' (from the state s to the state s' with
-- the label x). There are two ways to match this transition, and both must be impossible. The first way exists only if
-- x is the internal label: t makes no transition at all. In the second way, t follows a silent path (a path of internal
-- transitions), and then makes a transition with the label x.
abbrev pub no_answer : System → (ℕ → ℕ → Bool) → ℕ → ℕ → List ℕ → ℕ → Bool
no_answer B d s t x s' =
    and_then (or_else (not (bytes_eq x internal)) (λ _. d s' t)) (λ _. avoids_later B d s t x s')

-- `unanswered` returns true if the state s of A has a transition that the state t of B cannot match.
abbrev pub unanswered : Relation → System → System → (ℕ → ℕ → Bool) → ℕ → ℕ → Bool
unanswered Strong A B d s t = some_step A.transitions s (λ x s'. avoids B d t x s')
unanswered Branching A B d s t =
    and_then (covers B.transitions is_internal (silent_from B t) t) (λ _. some_step A.transitions s (no_answer B d s t))

rest_fails :
    (B : System) (d : ℕ → ℕ → Bool) (R : ℕ → ℕ → Type 0) → ((s t : ℕ) → d s t ≡ true → R s t → ⊥) →
    (t : ℕ) (x : List ℕ) (s' : ℕ) → or_else (not (bytes_eq x internal)) (λ _. d s' t) ≡ true → x ≡ internal → R s' t → ⊥
rest_fails B d R apart t x s' h e related = elim (or_else_cases (not (bytes_eq x internal)) (λ _. d s' t) h) [
  | inl n ↦ not_passes (bytes_eq x internal) n (bytes_pass x internal e)
  | inr q ↦ apart s' t q related
]

move_fails :
    (B : System) (d : ℕ → ℕ → Bool) (R : ℕ → ℕ → Type 0) → ((s t : ℕ) → d s t ≡ true → R s t → ⊥) →
    (s t : ℕ) (x : List ℕ) (s' : ℕ) → avoids_later B d s t x s' ≡ true →
    (t1 t' : ℕ) → Contains (silent_from B t) t1 → Step B t1 x t' → R s t1 → R s' t' → ⊥
move_fails B d R apart s t x s' h t1 t' c step related reached =
    let here = every_passes (silent_from B t) (λ t1. or_else (d s t1) (λ _. avoids B d t1 x s')) h t1 c in
    elim (or_else_cases (d s t1) (λ _. avoids B d t1 x s') here) [
      | inl q ↦ apart s t1 q related
      | inr each ↦ avoids_holds B d R apart t1 x s' each t' step reached
    ]

pub unanswered_fails :
    (rel : Relation) (A B : System) (d : ℕ → ℕ → Bool) (R : ℕ → ℕ → Type 0) → ((s t : ℕ) → d s t ≡ true → R s t → ⊥) →
    (s t : ℕ) → unanswered rel A B d s t ≡ true → Matches rel A B R s t → ⊥
unanswered_fails Strong A B d R apart s t h answer =
    let found = some_step_passes A.transitions s (λ x s'. avoids B d t x s') h in
    let reply = answer found.0 found.1 found.2 in
    avoids_holds B d R apart t found.0 found.1 found.3 reply.0 reply.1 reply.2
unanswered_fails Branching A B d R apart s t h answer =
    let whole = and_then_parts (covers B.transitions is_internal (silent_from B t) t) (λ _.
    some_step A.transitions s (no_answer B d s t)) h in
    let found = some_step_passes A.transitions s (no_answer B d s t) whole.1 in
    let x = found.0 in
    let s' = found.1 in
    let parts =
    and_then_parts (or_else (not (bytes_eq x internal)) (λ _. d s' t)) (λ _. avoids_later B d s t x s') found.3 in
    elim (answer x s' found.2) [
      | inl rests ↦ rest_fails B d R apart t x s' parts.0 rests.0 rests.1
      | inr moves ↦ move_fails B d R apart s t x s' parts.1 moves.0 moves.1
          (silent_only B t moves.0 whole.0 moves.2) moves.3 moves.4 moves.5
    ]

-- `differ` returns true if the states s of A and t of B differ after k rounds. No two states differ after 0 rounds. For
-- k > 0, two states differ after k rounds if at least one of them has a transition that the other state cannot match,
-- since each possible match leads to states that differ after k - 1 rounds.
abbrev pub differ : Relation → System → System → ℕ → ℕ → ℕ → Bool
differ rel A B zero s t = false
differ rel A B (suc k) s t =
    or_else (unanswered rel A B (λ x y. differ rel A B k x y) s t) (λ _.
    unanswered rel B A (λ y x. differ rel A B k x y) t s)

-- If the states s and t differ after k rounds, no bisimulation relates them.
pub differing :
    (rel : Relation) (A B : System) (R : ℕ → ℕ → Type 0) → IsBisimulation rel A B R →
    (k s t : ℕ) → differ rel A B k s t ≡ true → R s t → ⊥
differing rel A B R meets zero s t h r = absurd (let e : false ≡ true = h in cc)
differing rel A B R meets (suc k) s t h r =
    elim (or_else_cases (unanswered rel A B (λ x y. differ rel A B k x y) s t) (λ _.
    unanswered rel B A (λ y x. differ rel A B k x y) t s) h) [
      | inl u ↦ unanswered_fails rel A B (λ x y. differ rel A B k x y) R (λ x y e. differing rel A B R meets k x y e)
          s t u (meets.forth s t r)
      | inr u ↦ unanswered_fails rel B A (λ y x. differ rel A B k x y) (λ y x. R x y)
          (λ y x e. differing rel A B R meets k x y e)
          t s u (meets.back s t r)
    ]

pub not_bisimilar :
    (rel : Relation) (A B : System) (k s t : ℕ) → differ rel A B k s t ≡ true → ¬ Bisimilar rel A s B t
not_bisimilar rel A B k s t h found = differing rel A B (Pairs found.0) found.1 k s t h found.2

-- If the first states of A and B differ after j rounds for strong bisimilarity, and after k rounds for branching
-- bisimilarity, then A and B are not equivalent modulo either relation.
pub are_apart :
    (A B : System) (j k : ℕ) → is_system A ≡ true → is_system B ≡ true →
    differ Strong A B j A.first B.first ≡ true → differ Branching A B k A.first B.first ≡ true → AreApart A B
are_apart A B j k a b strongly branching_too = record {
  systems = (system_passes A a, system_passes B b);
  strongly = not_bisimilar Strong A B j A.first B.first strongly;
  branching = not_bisimilar Branching A B k A.first B.first branching_too;
}
