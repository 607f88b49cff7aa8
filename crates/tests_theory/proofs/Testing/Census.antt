-- A leader is a state that represents its class. In the quotient, each class of bisimilar reachable states becomes one
-- state, and the class number of the class is the number of this quotient state. This file proves which leaders, class
-- numbers and quotients given systems have. The classes and leaders of each system are described by a record, which is
-- called the census of the system (`Census`). The function `is_census` checks that the census is correct, and the facts
-- about the system follow from the census.
use Rattle.std.proofs.Common.{◌≡◌, ℕ, Bool, true, not, eqb, List, [], ◌∷◌, length, map, slice_index, subst}
use Rattle.std.proofs.lemmas.Bool.{eqb-true}
use Rattle.theory.specs.System.{System, Reachable}
use Rattle.theory.specs.declared.relation.Relation.{Relation}
use Rattle.theory.specs.Quotient.{Leader, IsLeader, Number, Quotient}
use Rattle.tests_theory.specs.Examples.{AreQuotients, NumbersAre, LeadersAre, QuotientIs}
use Rattle.tests_theory.proofs.Testing.{and_then, and_then_parts, not_passes, every, has, has_contains, contains_has}
use Rattle.tests_theory.proofs.Testing.{each_below, each_below_passes}
use Rattle.tests_theory.proofs.Testing.Reaching.{reachable, reachable_found}
use Rattle.tests_theory.proofs.Testing.Rising.{rises}
use Rattle.tests_theory.proofs.Testing.Leading.{are_reachable, are_classes, classes_pass, are_leaders, reachable_has}
use Rattle.tests_theory.proofs.Testing.Leading.{leader_is, leader_listed}
use Rattle.tests_theory.proofs.Testing.Numbering.{number_at, number_is}
use Rattle.tests_theory.proofs.Testing.Dividing.{divides, quotient_passes}

-- A census describes the classes of bisimilar states of a system, and the leaders, which are states that represent
-- their classes. The function `is_census` checks that a census is correct. In a correct census, the function `block`
-- gives the same block to two states if and only if they are bisimilar. The list `pairs` is a bisimulation that
-- contains each pair of bisimilar states. For any two states that are not bisimilar, the test `differ` shows after
-- `turns` rounds that these states are not bisimilar. `lead` gives the leader of each reachable state (the state that
-- represents its class), and `leaders` lists all leaders in ascending order.
pub record Census : Type 0 where
  pub block : ℕ → ℕ
  pub pairs : List (ℕ × ℕ)
  pub turns : ℕ
  pub lead : ℕ → ℕ
  pub leaders : List ℕ

-- A census describes the classes of a system, and the leaders, which are states that represent their classes.
-- `is_census` returns true if the census `census` of the system A is correct.
abbrev pub is_census : Relation → System → Census → Bool
is_census rel A census =
    and_then (are_classes rel A census.block census.pairs census.turns) (λ _.
    and_then (are_leaders A census.block census.lead census.leaders) (λ _. rises census.leaders))

census_parts : (rel : Relation) (A : System) (census : Census) → is_census rel A census ≡ true →
    (are_classes rel A census.block census.pairs census.turns ≡ true)
    × (are_leaders A census.block census.lead census.leaders ≡ true) × (rises census.leaders ≡ true)
census_parts rel A census h =
    let first = and_then_parts (are_classes rel A census.block census.pairs census.turns) (λ _.
    and_then (are_leaders A census.block census.lead census.leaders) (λ _. rises census.leaders)) h in
    let second =
    and_then_parts (are_leaders A census.block census.lead census.leaders) (λ _. rises census.leaders) first.1 in
    (first.0, second.0, second.1)

-- A census describes the classes of a system, and the leaders, which are states that represent their classes. Suppose
-- that the census of A is correct, and that the function `divides`, which tests whether a system is the quotient of A,
-- returns true for Q. Then Q is the quotient of A.
pub is_quotient :
    (rel : Relation) (A Q : System) (census : Census) → is_census rel A census ≡ true →
    divides rel A census.lead census.leaders Q ≡ true → Quotient rel A Q
is_quotient rel A Q census h d =
    let parts = census_parts rel A census h in
    quotient_passes rel A Q census.block census.pairs census.turns census.lead census.leaders parts.0 parts.1 parts.2 d

-- A census describes the classes of a system, and the leaders, which are states that represent their classes. The list
-- `cases` consists of triples of a system, a second system, and a census of the first system. Suppose that, in each
-- triple, the census is correct, and the test `divides` (is the second system the quotient of the first system?)
-- returns true. Then, in each triple, the second system is the quotient of the first system.
pub are_quotients :
    (rel : Relation) (cases : List (System × System × Census)) →
    every cases (λ x. and_then (is_census rel x.0 x.2) (λ _. divides rel x.0 x.2.lead x.2.leaders x.1)) ≡ true →
    AreQuotients rel (map (λ x. (x.0, x.1)) cases)
are_quotients rel [] h = tt
are_quotients rel ((A, Q, census) ∷ rest) h =
    let test = λ (x : System × System × Census). and_then (is_census rel x.0 x.2)
    (λ _. divides rel x.0 x.2.lead x.2.leaders x.1) in
    let first = and_then_parts (test (A, Q, census)) (λ _. every rest test) h in
    let parts = and_then_parts (is_census rel A census) (λ _. divides rel A census.lead census.leaders Q) first.0 in
    (is_quotient rel A Q census parts.0 parts.1, are_quotients rel rest first.1)

-- A census describes the classes of a system, and the leaders, which are states that represent their classes. Suppose
-- that the census is correct, that the state s is reachable, and that the function `number_at` computes the number n
-- for the leader of s in the census. Then n is the class number of s, which is the number of the quotient state that
-- the class of s becomes.
pub is_number :
    (rel : Relation) (A : System) (s n : ℕ) (census : Census) → is_census rel A census ≡ true →
    and_then (has (reachable A) s) (λ _. eqb (number_at A census.leaders (census.lead s)) n) ≡ true → Number rel A s n
is_number rel A s n census h d =
    let parts = census_parts rel A census h in
    let both = and_then_parts (has (reachable A) s) (λ _. eqb (number_at A census.leaders (census.lead s)) n) d in
    subst (Number rel A s) (eqb-true (number_at A census.leaders (census.lead s)) n both.1)
    (number_is rel A census.block census.lead census.leaders
    (classes_pass rel A census.block census.pairs census.turns parts.0) parts.1 parts.2
    s (reachable_found A s (has_contains (reachable A) s both.0)))

-- A census describes the classes of a system, and the leaders, which are states that represent their classes. Suppose
-- that the census is correct, and that it gives the leader l for the reachable state s. Then l is the leader of s.
pub is_led :
    (rel : Relation) (A : System) (s l : ℕ) (census : Census) → is_census rel A census ≡ true →
    and_then (has (reachable A) s) (λ _. eqb (census.lead s) l) ≡ true → Leader rel A s l
is_led rel A s l census h d =
    let parts = census_parts rel A census h in
    let both = and_then_parts (has (reachable A) s) (λ _. eqb (census.lead s) l) d in
    subst (Leader rel A s) (eqb-true (census.lead s) l both.1)
    (leader_is rel A census.block census.lead census.leaders
    (classes_pass rel A census.block census.pairs census.turns parts.0) parts.1
    s (reachable_found A s (has_contains (reachable A) s both.0)))

-- A census describes the classes of a system, and the leaders, which are states that represent their classes.
-- `lists_numbers` returns true if all states are reachable, and the list `numbers` gives the class number of each state
-- according to the census. The class number of a state is the number of the quotient state that the class of this state
-- becomes.
abbrev pub lists_numbers : System → List ℕ → Census → Bool
lists_numbers A numbers census =
    and_then (eqb (length numbers) A.states) (λ _.
    each_below A.states (λ s. and_then (has (reachable A) s) (λ _. eqb (number_at A census.leaders (census.lead s))
    (slice_index numbers s))))

numbers_are :
    (rel : Relation) (A : System) (numbers : List ℕ) (census : Census) → is_census rel A census ≡ true →
    lists_numbers A numbers census ≡ true → NumbersAre rel A numbers
numbers_are rel A numbers census h d =
    let test = λ (s : ℕ). and_then (has (reachable A) s) (λ _. eqb (number_at A census.leaders (census.lead s))
    (slice_index numbers s)) in
    let parts = and_then_parts (eqb (length numbers) A.states) (λ _. each_below A.states test) d in
    record {
      all = eqb-true (length numbers) A.states parts.0;
      each = λ s l. is_number rel A s (slice_index numbers s) census h (each_below_passes A.states test parts.1 s l);
    }

-- A census describes the classes of a system, and the leaders, which are states that represent their classes. Suppose
-- that the census of A is correct, that the test `divides` (is a system the quotient of A?) returns true for Q, and
-- that `lists_numbers` returns true for the list `numbers`. Then Q is the quotient of A, and the list `numbers` gives
-- the class number of each state of A, which is the number of the quotient state that the class of this state becomes.
pub quotient_is :
    (rel : Relation) (A Q : System) (numbers : List ℕ) (census : Census) → is_census rel A census ≡ true →
    divides rel A census.lead census.leaders Q ≡ true → lists_numbers A numbers census ≡ true →
    QuotientIs rel A Q numbers
quotient_is rel A Q numbers census h d l = record {
  quotient = is_quotient rel A Q census h d;
  numbers = numbers_are rel A numbers census h l;
}

-- A census describes the classes of a system, and the leaders, which are states that represent their classes.
-- `lists_leaders` returns true if all states are reachable, and the list `leaders` gives, for each state, the leader of
-- this state in the census.
abbrev pub lists_leaders : System → List ℕ → Census → Bool
lists_leaders A leaders census =
    and_then (eqb (length leaders) A.states) (λ _.
    each_below A.states (λ s. and_then (has (reachable A) s) (λ _. eqb (census.lead s) (slice_index leaders s))))

pub leaders_are :
    (rel : Relation) (A : System) (leaders : List ℕ) (census : Census) → is_census rel A census ≡ true →
    lists_leaders A leaders census ≡ true → LeadersAre rel A leaders
leaders_are rel A leaders census h d =
    let test = λ (s : ℕ). and_then (has (reachable A) s) (λ _. eqb (census.lead s) (slice_index leaders s)) in
    let parts = and_then_parts (eqb (length leaders) A.states) (λ _. each_below A.states test) d in
    record {
      all = eqb-true (length leaders) A.states parts.0;
      each = λ s l. is_led rel A s (slice_index leaders s) census h (each_below_passes A.states test parts.1 s l);
    }

-- A census describes the classes of a system, and the leaders, which are states that represent their classes. If the
-- census is correct, and its list of leaders does not contain the state l, then l is not a leader.
pub is_no_leader :
    (rel : Relation) (A : System) (l : ℕ) (census : Census) → is_census rel A census ≡ true →
    not (has census.leaders l) ≡ true → ¬ IsLeader rel A l
is_no_leader rel A l census h d leads =
    let parts = census_parts rel A census h in
    not_passes (has census.leaders l) d (contains_has census.leaders l
    (leader_listed rel A census.block census.lead census.leaders
    (classes_pass rel A census.block census.pairs census.turns parts.0) parts.1 l leads))

-- Suppose that the list `reachable A` contains all reachable states. If this list does not contain the state s, then s
-- is not reachable.
pub is_unreachable : (A : System) (s : ℕ) → and_then (are_reachable A) (λ _. not (has (reachable A) s)) ≡ true →
    ¬ Reachable A s
is_unreachable A s h path =
    let parts = and_then_parts (are_reachable A) (λ _. not (has (reachable A) s)) h in
    not_passes (has (reachable A) s) parts.1 (contains_has (reachable A) s (reachable_has A parts.0 s path))
