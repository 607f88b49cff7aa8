-- Tests whether given blocks are the classes of bisimilar states of a system, and whether given states are the leaders
-- of these classes (the states that represent them).
use Rattle.std.proofs.Common.{◌≡◌, ◌≢◌, ◌⊎◌, ◌↔◌, ℕ, ◌<◌, ◌≤◌, Bool, true, not, eqb, ltb, leb, ltb-true, leb-true, List}
use Rattle.std.proofs.Common.{[], Contains, refl, subst, inl, inr}
use Rattle.std.proofs.lemmas.Bool.{eqb-true, eq-eqb}
use Rattle.theory.specs.System.{System, Reachable}
use Rattle.theory.specs.Bisimulation.{Bisimilar}
use Rattle.theory.specs.declared.relation.Relation.{Relation}
use Rattle.theory.specs.Blocks.{Share}
use Rattle.theory.specs.Quotient.{Least, Fellow, Leader, IsLeader}
use Rattle.theory.proofs.CallerLemmas.{leader_unique}
use Rattle.tests_theory.proofs.Testing.{and_then, and_then_parts, or_else, or_else_cases, not_passes, every}
use Rattle.tests_theory.proofs.Testing.{every_passes, has, has_contains, each_below, each_below_passes}
use Rattle.tests_theory.proofs.Testing.Reaching.{covers, reachable, reachable_found, reachable_only}
use Rattle.tests_theory.proofs.Testing.Matching.{is_bisimulation, bisimulation_passes, has_pair, has_pair_contains}
use Rattle.tests_theory.proofs.Testing.Matching.{differ, not_bisimilar}

-- `are_classes` returns true if the blocks are the classes of bisimilar states. The function checks that the list
-- `pairs` is a bisimulation, and that this list contains each pair of states that share a block. The function also
-- checks that the test `differ` distinguishes, after k rounds, any two states that do not share a block.
abbrev pub are_classes : Relation → System → (ℕ → ℕ) → List (ℕ × ℕ) → ℕ → Bool
are_classes rel A block pairs k =
    and_then (is_bisimulation rel A A pairs) (λ _.
    each_below A.states (λ s. each_below A.states (λ t.
    or_else (and_then (eqb (block s) (block t)) (λ _. has_pair pairs s t)) (λ _.
    and_then (not (eqb (block s) (block t))) (λ _. differ rel A A k s t)))))

module _ (rel : Relation) (A : System) (block : ℕ → ℕ) (pairs : List (ℕ × ℕ)) (k : ℕ)
    (h : are_classes rel A block pairs k ≡ true) where
  -- `class_test` tests whether the states s and t share a block if and only if they are bisimilar. If s and t share a
  -- block, the function tests whether the list `pairs`, which is a bisimulation, contains the pair (s, t). Otherwise,
  -- it tests whether the function `differ` distinguishes s and t after k rounds.
  abbrev class_test : ℕ → ℕ → Bool
  class_test s t = or_else (and_then (eqb (block s) (block t)) (λ _. has_pair pairs s t)) (λ _.
      and_then (not (eqb (block s) (block t))) (λ _. differ rel A A k s t))

  class_parts : (is_bisimulation rel A A pairs ≡ true)
      × (each_below A.states (λ s. each_below A.states (class_test s)) ≡ true)
  class_parts = and_then_parts (is_bisimulation rel A A pairs)
      (λ _. each_below A.states (λ s. each_below A.states (class_test s))) h

  class_cases : (s t : ℕ) → s < A.states → t < A.states →
      ((block s ≡ block t) × Bisimilar rel A s A t) ⊎ ((block s ≢ block t) × ¬ Bisimilar rel A s A t)
  class_cases s t ls lt =
      elim (or_else_cases (and_then (eqb (block s) (block t)) (λ _. has_pair pairs s t)) (λ _.
      and_then (not (eqb (block s) (block t))) (λ _. differ rel A A k s t))
      (each_below_passes A.states (class_test s)
      (each_below_passes A.states (λ u. each_below A.states (class_test u)) class_parts.1 s ls) t lt)) [
        | inl p ↦ (
            let both = and_then_parts (eqb (block s) (block t)) (λ _. has_pair pairs s t) p in
            inl (
              eqb-true (block s) (block t) both.0,
              (pairs, bisimulation_passes rel A A pairs class_parts.0, has_pair_contains pairs s t both.1),
            ))
        | inr p ↦ (
            let both = and_then_parts (not (eqb (block s) (block t))) (λ _. differ rel A A k s t) p in
            inr (
              λ e. not_passes (eqb (block s) (block t)) both.0 (eq-eqb (block s) (block t) e),
              not_bisimilar rel A A k s t both.1,
            ))
      ]

  class_there : (s t : ℕ) → Bisimilar rel A s A t → Share A block s t
  class_there s t b =
      let low = b.1.states s t b.2 in
      (low.0, low.1, elim (class_cases s t low.0 low.1) [ inl p ↦ p.0 | inr p ↦ absurd (p.1 b) ])

  class_back : (s t : ℕ) → Share A block s t → Bisimilar rel A s A t
  class_back s t (ls, lt, e) = elim (class_cases s t ls lt) [ inl p ↦ p.1 | inr p ↦ absurd (p.0 e) ]

  -- If `are_classes` returns true, then two states of A are bisimilar if and only if they share a block.
  pub classes_pass : (s t : ℕ) → Bisimilar rel A s A t ↔ Share A block s t
  classes_pass s t = (class_there s t, class_back s t)

-- `is_least` returns true if the state l is less than or equal to each reachable state in the block of the state s
-- (states are numbers).
abbrev pub is_least : System → (ℕ → ℕ) → ℕ → ℕ → Bool
is_least A block s l = every (reachable A) (λ u. or_else (not (eqb (block s) (block u))) (λ _. leb l u))

-- `leads_other` returns true if the state s is not in the block of the first state, and the state l is the least
-- reachable state in the block of s.
abbrev pub leads_other : System → (ℕ → ℕ) → ℕ → ℕ → Bool
leads_other A block s l =
    and_then (not (eqb (block s) (block A.first))) (λ _. and_then (has (reachable A) l) (λ _.
    and_then (eqb (block s) (block l)) (λ _. is_least A block s l)))

-- `leads` returns true if the state l is the leader of the state s, which means that l represents the class of s. The
-- result is correct if the blocks are the classes of bisimilar states.
abbrev pub leads : System → (ℕ → ℕ) → ℕ → ℕ → Bool
leads A block s l =
    or_else (and_then (eqb (block s) (block A.first)) (λ _. eqb l A.first)) (λ _. leads_other A block s l)

-- `are_reachable` returns true if the list `reachable A` contains all reachable states, and contains only states of A.
abbrev pub are_reachable : System → Bool
are_reachable A =
    and_then (covers A.transitions (λ e. true) (reachable A) A.first) (λ _. every (reachable A) (λ s. ltb s A.states))

-- A leader is a state that represents its class. `are_leaders` returns true if the function `lead` gives the leader of
-- each reachable state, and the list `leaders` contains exactly the leaders.
abbrev pub are_leaders : System → (ℕ → ℕ) → (ℕ → ℕ) → List ℕ → Bool
are_leaders A block lead leaders =
    and_then (are_reachable A) (λ _.
    and_then (every (reachable A) (λ s. and_then (leads A block s (lead s)) (λ _. has leaders (lead s)))) (λ _.
    every leaders (λ l. and_then (has (reachable A) l) (λ _. eqb (lead l) l))))

pub leaders_reachable : (A : System) (block lead : ℕ → ℕ) (leaders : List ℕ) → are_leaders A block lead leaders ≡ true →
    are_reachable A ≡ true
leaders_reachable A block lead leaders h = (and_then_parts (are_reachable A) (λ _.
    and_then (every (reachable A) (λ s. and_then (leads A block s (lead s)) (λ _. has leaders (lead s)))) (λ _.
    every leaders (λ l. and_then (has (reachable A) l) (λ _. eqb (lead l) l)))) h).0

pub reachable_has : (A : System) → are_reachable A ≡ true → (s : ℕ) → Reachable A s → Contains (reachable A) s
reachable_has A h s path =
    reachable_only A s
    (and_then_parts (covers A.transitions (λ e. true) (reachable A) A.first)
    (λ _. every (reachable A) (λ s. ltb s A.states)) h).0
    path

pub reachable_state : (A : System) → are_reachable A ≡ true → (s : ℕ) → Reachable A s → s < A.states
reachable_state A h s path =
    ltb-true s A.states (every_passes (reachable A) (λ s. ltb s A.states)
    (and_then_parts (covers A.transitions (λ e. true) (reachable A) A.first)
    (λ _. every (reachable A) (λ s. ltb s A.states)) h).1
    s (reachable_has A h s path))

module _ (rel : Relation) (A : System) (block : ℕ → ℕ) (same : (s t : ℕ) → Bisimilar rel A s A t ↔ Share A block s t)
    (found : are_reachable A ≡ true) where
  least_passes : (s l : ℕ) → is_least A block s l ≡ true → (u : ℕ) → Fellow rel A s u → l ≤ u
  least_passes s l h u fellow =
      elim (or_else_cases (not (eqb (block s) (block u))) (λ _. leb l u)
      (every_passes (reachable A) (λ u. or_else (not (eqb (block s) (block u))) (λ _. leb l u)) h u
      (reachable_has A found u fellow.0))) [
        | inl n ↦ absurd (not_passes (eqb (block s) (block u)) n (eq-eqb (block s) (block u) ((same s u).0 fellow.1).2))
        | inr q ↦ leb-true l u q
      ]

  other_passes : (s l : ℕ) → s < A.states → leads_other A block s l ≡ true →
      ¬ Bisimilar rel A s A A.first × Least (Fellow rel A s) l
  other_passes s l below h =
      let first = and_then_parts (not (eqb (block s) (block A.first))) (λ _. and_then (has (reachable A) l) (λ _.
      and_then (eqb (block s) (block l)) (λ _. is_least A block s l))) h in
      let second = and_then_parts (has (reachable A) l) (λ _.
      and_then (eqb (block s) (block l)) (λ _. is_least A block s l)) first.1 in
      let third = and_then_parts (eqb (block s) (block l)) (λ _. is_least A block s l) second.1 in
      let reached = reachable_found A l (has_contains (reachable A) l second.0) in (
        λ b. not_passes (eqb (block s) (block A.first)) first.0 (eq-eqb (block s) (block A.first)
            ((same s A.first).0 b).2),
        (
          (reached, (same s l).1 (below, reachable_state A found l reached, eqb-true (block s) (block l) third.0)),
          λ u fellow. least_passes s l third.1 u fellow,
        ),
      )

  leads_passes : (s l : ℕ) → s < A.states → leads A block s l ≡ true → Leader rel A s l
  leads_passes s l below h =
      elim (or_else_cases (and_then (eqb (block s) (block A.first)) (λ _. eqb l A.first))
      (λ _. leads_other A block s l) h) [
        | inl p ↦ (
            let both = and_then_parts (eqb (block s) (block A.first)) (λ _. eqb l A.first) p in
            inl (
              (same s A.first).1 (
                below,
                reachable_state A found A.first ([], refl),
                eqb-true (block s) (block A.first) both.0,
              ),
              eqb-true l A.first both.1,
            ))
        | inr p ↦ inr (other_passes s l below p)
      ]

module _ (rel : Relation) (A : System) (block lead : ℕ → ℕ) (leaders : List ℕ)
    (same : (s t : ℕ) → Bisimilar rel A s A t ↔ Share A block s t) (h : are_leaders A block lead leaders ≡ true) where
  parts : (are_reachable A ≡ true)
      × (and_then (every (reachable A) (λ s. and_then (leads A block s (lead s)) (λ _. has leaders (lead s)))) (λ _.
      every leaders (λ l. and_then (has (reachable A) l) (λ _. eqb (lead l) l))) ≡ true)
  parts = and_then_parts (are_reachable A) (λ _.
      and_then (every (reachable A) (λ s. and_then (leads A block s (lead s)) (λ _. has leaders (lead s)))) (λ _.
      every leaders (λ l. and_then (has (reachable A) l) (λ _. eqb (lead l) l)))) h

  both : (every (reachable A) (λ s. and_then (leads A block s (lead s)) (λ _. has leaders (lead s))) ≡ true)
      × (every leaders (λ l. and_then (has (reachable A) l) (λ _. eqb (lead l) l)) ≡ true)
  both =
      and_then_parts (every (reachable A) (λ s. and_then (leads A block s (lead s)) (λ _. has leaders (lead s)))) (λ _.
      every leaders (λ l. and_then (has (reachable A) l) (λ _. eqb (lead l) l))) parts.1

  led : (s : ℕ) → Reachable A s → (leads A block s (lead s) ≡ true) × (has leaders (lead s) ≡ true)
  led s path = and_then_parts (leads A block s (lead s)) (λ _. has leaders (lead s))
      (every_passes (reachable A) (λ s. and_then (leads A block s (lead s)) (λ _. has leaders (lead s))) both.0 s
      (reachable_has A parts.0 s path))

  pub leader_is : (s : ℕ) → Reachable A s → Leader rel A s (lead s)
  leader_is s path = leads_passes rel A block same parts.0 s (lead s) (reachable_state A parts.0 s path) (led s path).0

  pub leader_listed : (l : ℕ) → IsLeader rel A l → Contains leaders l
  leader_listed l (s, path, leader) =
      subst (Contains leaders) (leader_unique rel A s (lead s) l (leader_is s path) leader)
      (has_contains leaders (lead s) (led s path).1)

  pub listed_leads : (l : ℕ) → Contains leaders l → IsLeader rel A l
  listed_leads l c =
      let own = and_then_parts (has (reachable A) l) (λ _. eqb (lead l) l)
      (every_passes leaders (λ l. and_then (has (reachable A) l) (λ _. eqb (lead l) l)) both.1 l c) in
      let path = reachable_found A l (has_contains (reachable A) l own.0) in
      (l, path, subst (Leader rel A l) (eqb-true (lead l) l own.1) (leader_is l path))
