-- Lemmas about class numbers. In the quotient, each class of bisimilar reachable states becomes one state, and the
-- class number of a reachable state is the number of the quotient state that its class becomes. A leader is the state
-- of the system that represents its class.
--
-- Each reachable state has exactly one class number. Two reachable states have the same class number if and only if
-- they are bisimilar. The class numbers (the quotient states) are exactly the numbers less than the number of leaders.
use Rattle.std.proofs.Common.{◌≡◌, ◌≢◌, ◌⊎◌, ◌↔◌, ℕ, zero, suc, ◌+◌, ◌<◌, ◌≤◌, refl, sym, ◌∙◌, ap, subst, inl, inr}
use Rattle.std.proofs.Common.{add-one, arith}
use Rattle.std.proofs.lemmas.Bool.{cases_eq, cases_order}
use Rattle.theory.specs.System.{System, IsSystem, Reachable}
use Rattle.theory.specs.Bisimulation.{Bisimilar}
use Rattle.theory.specs.declared.relation.Relation.{Relation}
use Rattle.theory.specs.Quotient.{HowMany, Leader, IsLeader, Number}
use Rattle.theory.proofs.Deciding.{same_number, not_so, both, decided_like}
use Rattle.theory.proofs.Tally.{how_many_like, how_many_unique, one, one_yes, one_no, tally, tally_suc, tallied}
use Rattle.theory.proofs.Tally.{tally_is, tally_less, tally_reached, tally_one_more, tally_at_most}
use Rattle.theory.proofs.Leaders.{leader_unique, first_reachable, reachable_decided, first_leads, leader_fellow}
use Rattle.theory.proofs.Leaders.{leader_carried, same_leader_bisimilar, leads_itself, leader_of, is_leader_itself}
use Rattle.theory.proofs.Leaders.{is_leader_below, is_leader_decided}

-- A leader is the state that represents its class. `IsOther` holds if the state l is a leader and is not the first
-- state.
abbrev IsOther : Relation → System → ℕ → Type 0
IsOther rel A l = IsLeader rel A l × (l ≢ A.first)

module _ (rel : Relation) (A : System) (sys : IsSystem A) where
  is_other_decided : (l : ℕ) → Dec (IsOther rel A l)
  is_other_decided l = both (is_leader_decided rel A sys l) (not_so (same_number l A.first))

  -- States are numbers. A leader is a state that represents its class. Returns the number of leaders that are less than
  -- the number l and differ from the first state. The first state is left out because its class always has the number
  -- 0.
  pub place : ℕ → ℕ
  place l = tally (IsOther rel A) is_other_decided l

  place_counts : (l : ℕ) → HowMany (λ m. IsLeader rel A m × (m < l) × (m ≢ A.first)) (place l)
  unfolding place
  place_counts l =
      how_many_like (λ m. IsOther rel A m × (m < l)) (λ m. IsLeader rel A m × (m < l) × (m ≢ A.first)) (place l)
      (λ m. (λ h. (h.0.0, h.1, h.0.1), λ h. ((h.0, h.2), h.1))) (tallied (IsOther rel A) is_other_decided l)

  -- A leader is the state of the system that represents its class. `Placed` holds if n is the class number of the
  -- leader l. This number is the number of the quotient state that the class of l becomes.
  abbrev Placed : ℕ → ℕ → Type 0
  Placed l n = ((l ≡ A.first) × (n ≡ 0)) ⊎ ((l ≢ A.first) × (n ≡ suc (place l)))

  number_placed : (s n : ℕ) → Number rel A s n → (l : ℕ) × Leader rel A s l × Placed l n
  number_placed s n (l, leader, inl p) = (l, leader, inl p)
  number_placed s n (l, leader, inr (other, k, many, is)) =
      let e : k ≡ place l =
      how_many_unique (λ m. IsLeader rel A m × (m < l) × (m ≢ A.first)) k (place l) many (place_counts l) in
      (l, leader, inr (other, omega (arith, is, e)))

  -- The leader of a state is the state that represents its class. If l is the leader of the state s, and n is the class
  -- number of l (`Placed`), then n is the class number of s.
  pub placed_number : (s l n : ℕ) → Leader rel A s l → Placed l n → Number rel A s n
  placed_number s l n leader (inl p) = (l, leader, inl p)
  placed_number s l n leader (inr p) = (l, leader, inr (p.0, place l, place_counts l, omega (arith, p.1)))

  place_of : (l : ℕ) → (n : ℕ) × Placed l n
  place_of l = elim (cases_eq l A.first) [ inl e ↦ (0, inl (e, refl)) | inr d ↦ (suc (place l), inr (d, refl)) ]

  placed_once : (l m n : ℕ) → Placed l m → Placed l n → m ≡ n
  placed_once l m n (inl p) (inl q) = p.1 ∙ sym q.1
  placed_once l m n (inl p) (inr q) = absurd (q.0 p.0)
  placed_once l m n (inr p) (inl q) = absurd (p.0 q.0)
  placed_once l m n (inr p) (inr q) = p.1 ∙ sym q.1

  place_less : (k l : ℕ) → IsLeader rel A k → k ≢ A.first → k < l → place k < place l
  unfolding place
  place_less k l leads other low = tally_less (IsOther rel A) is_other_decided k l (leads, other) low

  -- The leader of a class is the state of the system that represents this class. In the quotient, each class of
  -- bisimilar reachable states becomes one state, and the class number of the class is the number of this quotient
  -- state. If the classes of two leaders have the same class number, the two leaders are equal.
  placed_apart : (k l n : ℕ) → IsLeader rel A k → IsLeader rel A l → Placed k n → Placed l n → k ≡ l
  placed_apart k l n hk hl (inl p) (inl q) = p.0 ∙ sym q.0
  placed_apart k l n hk hl (inl p) (inr q) = absurd (omega (arith, p.1, q.1))
  placed_apart k l n hk hl (inr p) (inl q) = absurd (omega (arith, p.1, q.1))
  placed_apart k l n hk hl (inr p) (inr q) = elim (cases_order k l) [
    | inl e ↦ e
    | inr o ↦ elim o [
      | inl low ↦ absurd (omega (arith, p.1, q.1, place_less k l hk p.0 low))
      | inr low ↦ absurd (omega (arith, p.1, q.1, place_less l k hl q.0 low))
    ]
  ]

  led : (s l : ℕ) → Leader rel A s l → IsLeader rel A l
  led s l h = (l, (leader_fellow rel A sys s l h).0, leads_itself rel A sys s l h)

  -- The class number of a state is the number of the quotient state that the class of this state becomes. Every
  -- reachable state has a class number.
  pub number_of : (s : ℕ) → Reachable A s → (n : ℕ) × Number rel A s n
  number_of s path =
      let found : (l : ℕ) × Leader rel A s l = leader_of rel A sys s path in
      let at : (n : ℕ) × Placed found.0 n = place_of found.0 in
      (at.0, placed_number s found.0 at.0 found.1 at.1)

  -- The class number of a state is the number of the quotient state that the class of this state becomes. A state has
  -- at most one class number.
  pub number_once : (s m n : ℕ) → Number rel A s m → Number rel A s n → m ≡ n
  number_once s m n h g =
      let p : (l : ℕ) × Leader rel A s l × Placed l m = number_placed s m h in
      let q : (l : ℕ) × Leader rel A s l × Placed l n = number_placed s n g in
      placed_once q.0 m n (subst (λ l. Placed l m) (leader_unique rel A s p.0 q.0 p.1 q.1) p.2) q.2

  -- The class number of a state is the number of the quotient state that the class of this state becomes. If two states
  -- are bisimilar, they have the same class number.
  pub number_carried : (s t n : ℕ) → Bisimilar rel A s A t → Number rel A s n → Number rel A t n
  number_carried s t n b (l, leader, at) = (l, leader_carried rel A sys s t l b leader, at)

  -- The class number of a state is the number of the quotient state that the class of this state becomes. If two states
  -- have the same class number, they are bisimilar.
  pub same_number_bisimilar : (s t n : ℕ) → Number rel A s n → Number rel A t n → Bisimilar rel A s A t
  same_number_bisimilar s t n h g =
      let p : (l : ℕ) × Leader rel A s l × Placed l n = number_placed s n h in
      let q : (l : ℕ) × Leader rel A t l × Placed l n = number_placed t n g in
      let same : p.0 ≡ q.0 = placed_apart p.0 q.0 n (led s p.0 p.1) (led t q.0 q.1) p.2 q.2 in
      same_leader_bisimilar rel A sys s t q.0 (subst (Leader rel A s) same p.1) q.1

  -- The class number of a reachable state is the number of the quotient state that the class of this state becomes. Two
  -- states that have class numbers have the same class number if and only if they are bisimilar.
  pub numbers_classes : (s t m n : ℕ) → Number rel A s m → Number rel A t n → (m ≡ n) ↔ Bisimilar rel A s A t
  numbers_classes s t m n h g = (
    λ e. same_number_bisimilar s t n (subst (Number rel A s) e h) g,
    λ b. number_once t m n (number_carried s t m b h) g,
  )

  -- The class number of a state is the number of the quotient state that the class of this state becomes. It is
  -- decidable whether the state s is reachable and has the class number n.
  pub number_decided : (s n : ℕ) → Dec (Reachable A s × Number rel A s n)
  number_decided s n = go (reachable_decided rel A sys s)
    where
      go : Dec (Reachable A s) → Dec (Reachable A s × Number rel A s n)
      go (yes path) =
          decided_like (λ e. (path, subst (Number rel A s) e (number_of s path).1))
          (λ h. number_once s (number_of s path).0 n (number_of s path).1 h.1) (same_number (number_of s path).0 n)
      go (no f) = no (λ h. f h.0)

  -- The first state has the class number 0, which means that the class of the first state becomes the quotient state 0.
  pub first_number : Number rel A A.first 0
  first_number = (A.first, first_leads rel A sys, inl (refl, refl))

  module _ (c : ℕ) (many : HowMany (IsLeader rel A) c) where
    -- A leader is a state that represents its class. The number of all leaders is the number of leaders that differ
    -- from the first state, plus 1.
    others_counted : c ≡ suc (place A.states)
    unfolding place
    others_counted =
        tally_is (IsLeader rel A) (is_leader_decided rel A sys) A.states c
        (how_many_like (IsLeader rel A) (λ l. IsLeader rel A l × (l < A.states)) c
        (λ l. (λ h. (h, is_leader_below rel A sys l h), λ h. h.0)) many)
        ∙ tally_one_more (IsOther rel A) (IsLeader rel A) is_other_decided (is_leader_decided rel A sys) A.states
        A.first sys.first
        (λ h. h.1 refl) (A.first, first_reachable A, first_leads rel A sys) (λ k l other. (λ h. h.0, λ h. (h, other)))

    placed_below : (l n : ℕ) → IsLeader rel A l → Placed l n → n < c
    placed_below l n leads (inl p) = omega (arith, p.1, others_counted)
    placed_below l n leads (inr p) =
        omega (arith, p.1, others_counted, place_less l A.states leads p.0 (is_leader_below rel A sys l leads))

    -- In the quotient, each class of bisimilar reachable states becomes one state, and the class number of the class is
    -- the number of this quotient state. The leader of a class is the state of the system that represents this class.
    -- Every class number is less than the number of leaders.
    pub number_below : (s n : ℕ) → Number rel A s n → n < c
    number_below s n h =
        let p : (l : ℕ) × Leader rel A s l × Placed l n = number_placed s n h in
        placed_below p.0 n (led s p.0 p.1) p.2

    -- The class number of a reachable state is the number of the quotient state that the class of this state becomes. A
    -- leader is a state of the system that represents its class. Every number less than the number of leaders is the
    -- class number of some reachable state.
    pub number_taken : (n : ℕ) → n < c → (s : ℕ) × Reachable A s × Number rel A s n
    unfolding place
    number_taken zero low = (A.first, first_reachable A, first_number)
    number_taken (suc n) low =
        let found : (k : ℕ) × (k < A.states) × IsOther rel A k × (place k ≡ n) =
        tally_reached (IsOther rel A) is_other_decided A.states n (omega (arith, low, others_counted)) in
        let own : Reachable A found.0 × Leader rel A found.0 found.0 = is_leader_itself rel A sys found.0 found.2.0 in
        (found.0, own.0, placed_number found.0 found.0 (suc n) own.1 (inr (found.2.1, ap suc (sym found.3))))

  -- States are numbers. A leader is a state that represents its class. `place l` is the number of leaders that are less
  -- than the number l and differ from the first state. If l is a leader and differs from the first state, then `place
  -- (l + 1)` is 1 more than `place l`. Otherwise, the two numbers are equal.
  pub place_next : (l : ℕ) → (IsOther rel A l × (place (l + 1) ≡ place l + 1))
      ⊎ (¬ IsOther rel A l × (place (l + 1) ≡ place l))
  unfolding place
  place_next l = rw (add-one l) (go (is_other_decided l))
    where
      next : tally (IsOther rel A) is_other_decided (suc l) ≡ tally (IsOther rel A) is_other_decided l
          + one (is_other_decided l)
      next = tally_suc (IsOther rel A) is_other_decided l

      go : Dec (IsOther rel A l) →
          (IsOther rel A l × (tally (IsOther rel A) is_other_decided (suc l)
          ≡ tally (IsOther rel A) is_other_decided l + 1))
          ⊎ (¬ IsOther rel A l × (tally (IsOther rel A) is_other_decided (suc l)
          ≡ tally (IsOther rel A) is_other_decided l))
      go (yes h) = inl (h, omega (arith, next, one_yes h (is_other_decided l)))
      go (no f) = inr (f, omega (arith, next, one_no f (is_other_decided l)))

  -- A leader is a state that represents its class. At most l leaders are less than the number l.
  pub place_few : (l : ℕ) → place l ≤ l
  unfolding place
  place_few l = tally_at_most (IsOther rel A) is_other_decided l

  all_leaders : HowMany (IsLeader rel A) (tally (IsLeader rel A) (is_leader_decided rel A sys) A.states)
  all_leaders =
      how_many_like (λ l. IsLeader rel A l × (l < A.states)) (IsLeader rel A)
      (tally (IsLeader rel A) (is_leader_decided rel A sys) A.states)
      (λ l. (λ h. h.0, λ h. (h, is_leader_below rel A sys l h)))
      (tallied (IsLeader rel A) (is_leader_decided rel A sys) A.states)

  -- A leader is a state that represents its class. There is one leader more than there are leaders that differ from the
  -- first state.
  pub leaders_counted : HowMany (IsLeader rel A) (suc (place A.states))
  leaders_counted = subst (HowMany (IsLeader rel A)) (others_counted _ all_leaders) all_leaders

  -- A leader is a state that represents its class. The number of leaders that differ from the first state is less than
  -- the number of states.
  pub leaders_few : place A.states < A.states
  leaders_few =
      omega (arith, others_counted _ all_leaders, tally_at_most (IsLeader rel A) (is_leader_decided rel A sys) A.states)
