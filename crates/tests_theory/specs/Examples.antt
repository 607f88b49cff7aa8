-- This file defines small systems, which are used for tests of the definitions. This file also defines the propositions
-- by which the tests state the bisimulations, signatures and quotients of these systems.
use Rattle.std.specs.Prelude.{◌≡◌, ℕ, suc, ◌<◌, List, [], ◌∷◌, ◌↔◌, length, map, slice_index, ⊤}
use Rattle.std.specs.List.{Contains, slice_index_or}
use Rattle.theory.specs.System.{System, Transition, IsSystem, internal}
use Rattle.theory.specs.Bisimulation.{Equivalent}
use Rattle.theory.specs.declared.relation.Relation.{Relation}
use Rattle.theory.specs.declared.relation.Relation.TheVariants.{Strong, Branching}
use Rattle.theory.specs.Blocks.{Signature, Split, OneBlock, Turns}
use Rattle.theory.specs.Quotient.{Leader, Number, Quotient}

-- `AreApart A B` holds if A and B are well-formed systems that are not equivalent modulo strong bisimilarity, and not
-- equivalent modulo branching bisimilarity.
pub record AreApart (A B : System) : Type 0 where
  pub systems : IsSystem A × IsSystem B
  pub strongly : ¬ Equivalent Strong A B
  pub branching : ¬ Equivalent Branching A B

-- `SignatureIs` holds if the signature of the state s, with respect to the given blocks, contains exactly the pairs in
-- the list `pairs`.
abbrev pub SignatureIs : Relation → System → (ℕ → ℕ) → ℕ → List (List ℕ × ℕ) → Type 0
SignatureIs rel A blocks s pairs = (x : List ℕ) (n : ℕ) → Signature rel A blocks s x n ↔ Contains pairs (x, n)

-- `SplitsBy` holds if splitting the blocks `old` by the signatures of the states gives the blocks `new`. For each state
-- s (states are numbers), the list `pairs` contains the signature of s at the index s.
pub record SplitsBy
    (rel : Relation) (A : System) (old : List ℕ) (pairs : List (List (List ℕ × ℕ))) (new : List ℕ) : Type 0 where
  pub signatures : (s : ℕ) → s < A.states → SignatureIs rel A (slice_index old) s (slice_index_or pairs s [])
  pub split : Split rel A (slice_index old) (slice_index new)

-- `Round` is the type of a round of refinement. A round is given by the signature of each state with respect to the
-- blocks before the round, and by the blocks after the round.
abbrev pub Round : Type 0
Round = List (List (List ℕ × ℕ)) × List ℕ

-- `blocks_before` returns the blocks before the round with the index j, and `signatures_at` returns the signatures of
-- all states in this round. The list `rounds` contains, for each round, the signatures of all states and the blocks
-- after the round. The list `first` contains the blocks before the first round.
abbrev pub blocks_before : List ℕ → List Round → ℕ → List ℕ
blocks_before first rounds j = slice_index_or (first ∷ map (λ r. r.1) rounds) j []

abbrev pub signatures_at : List Round → ℕ → List (List (List ℕ × ℕ))
signatures_at rounds j = slice_index_or (map (λ r. r.0) rounds) j []

-- `RefinesBy` holds if refinement consists of exactly the rounds in the list `rounds`. Refinement begins with one block
-- that contains all states, and it ends with the first round that changes nothing.
pub record RefinesBy (rel : Relation) (A : System) (first : List ℕ) (rounds : List Round) : Type 0 where
  pub one : OneBlock A (slice_index first)
  pub splits : (j : ℕ) → j < length rounds →
      SplitsBy rel A (blocks_before first rounds j) (signatures_at rounds j) (blocks_before first rounds (suc j))
  pub turns : Turns rel A (length rounds)

-- `NumbersAre` holds if the list `numbers` contains, at the index s, the class number of the state s (the number of the
-- quotient state that the class of s becomes).
pub record NumbersAre (rel : Relation) (A : System) (numbers : List ℕ) : Type 0 where
  pub all : length numbers ≡ A.states
  pub each : (s : ℕ) → s < A.states → Number rel A s (slice_index numbers s)

-- `LeadersAre` holds if the list `leaders` contains, at the index s, the leader of the state s (the state that
-- represents the class of s).
pub record LeadersAre (rel : Relation) (A : System) (leaders : List ℕ) : Type 0 where
  pub all : length leaders ≡ A.states
  pub each : (s : ℕ) → s < A.states → Leader rel A s (slice_index leaders s)

-- `QuotientIs` holds if Q is the quotient of A, and the list `list` contains the class number of each state of A (the
-- number of the quotient state that the class of the state becomes).
pub record QuotientIs (rel : Relation) (A Q : System) (list : List ℕ) : Type 0 where
  pub quotient : Quotient rel A Q
  pub numbers : NumbersAre rel A list

-- `AreQuotients` holds if, in each pair of systems, the second system is the quotient of the first system.
abbrev pub AreQuotients : Relation → List (System × System) → Type 0
AreQuotients rel [] = ⊤
AreQuotients rel ((A, Q) ∷ rest) = Quotient rel A Q × AreQuotients rel rest

-- `system` builds a system from its first state, its number of states, and its transitions.
abbrev pub system : ℕ → ℕ → List Transition → System
system first states transitions = record { first = first; states = states; transitions = transitions }

-- `edge s x t` is the transition from s to t with the label x. The labels `a`, `b` and `c` have one letter each.
abbrev pub edge : ℕ → List ℕ → ℕ → Transition
edge s x t = record { source = s; label = x; target = t }

abbrev pub a : List ℕ
a = 97 ∷ []

abbrev pub b : List ℕ
b = 98 ∷ []

abbrev pub c : List ℕ
c = 99 ∷ []

-- `steps_from s labels` are transitions that form a path with these labels. The path begins in the state s, and each
-- transition leads to the state with the next greater number.
abbrev pub steps_from : ℕ → List (List ℕ) → List Transition
steps_from s [] = []
steps_from s (x ∷ later) = edge s x (suc s) ∷ steps_from (suc s) later

-- `chain labels` is a system that consists of a single path from the state 0, with the labels in the list `labels`, in
-- their order.
abbrev pub chain : List (List ℕ) → System
chain labels = system 0 (suc (length labels)) (steps_from 0 labels)

-- `lone_state` is a system with one state and no transitions.
abbrev pub lone_state : System
lone_state = system 0 1 []

-- `only_a` is a system with one transition, which has the label `a`.
abbrev pub only_a : System
only_a = chain (a ∷ [])

-- `only_a_from_1` is a system whose first state is the state 1. The only transition has the label `a`, and leads from
-- this state to the state 0.
abbrev pub only_a_from_1 : System
only_a_from_1 = system 1 2 (edge 1 a 0 ∷ [])

-- `only_b` is a system with one transition, which has the label `b`.
abbrev pub only_b : System
only_b = chain (b ∷ [])

-- `a_then_b` is a system in which a transition with the label `a` is followed by a transition with the label `b`.
abbrev pub a_then_b : System
a_then_b = chain (a ∷ b ∷ [])

-- `a_then_b_reordered` is the system `a_then_b`, except that its transitions are listed in a different order.
abbrev pub a_then_b_reordered : System
a_then_b_reordered = system 0 3 (edge 1 b 2 ∷ edge 0 a 1 ∷ [])

-- `loop_of_a` is a system with one state, and a transition with the label `a` from this state to itself.
abbrev pub loop_of_a : System
loop_of_a = system 0 1 (edge 0 a 0 ∷ [])

-- In the system `choice_after`, the choice comes after the transition with the label `a`: this transition leads to a
-- state in which both `b` and `c` are possible.
abbrev pub choice_after : System
choice_after = system 0 4 (edge 0 a 1 ∷ edge 1 b 2 ∷ edge 1 c 3 ∷ [])

-- In the system `choice_before`, the choice comes first: there are two transitions with the label `a`. After one of
-- them, only `b` is possible, and after the other one, only `c` is possible.
abbrev pub choice_before : System
choice_before = system 0 5 (edge 0 a 1 ∷ edge 0 a 2 ∷ edge 1 b 3 ∷ edge 2 c 4 ∷ [])

-- `silent_loop` is a system with one state, and an internal transition from this state to itself.
abbrev pub silent_loop : System
silent_loop = system 0 1 (edge 0 internal 0 ∷ [])

-- `loop_and_rest` is a system with two states. The first state has an internal transition to itself, and the second
-- state has no transitions.
abbrev pub loop_and_rest : System
loop_and_rest = system 0 2 (edge 0 internal 0 ∷ [])

-- `silent_choice` is a system whose first state has a transition with the label `a`, and an internal transition to a
-- state in which `a` is not possible.
abbrev pub silent_choice : System
silent_choice = system 0 2 (edge 0 internal 1 ∷ edge 0 a 1 ∷ [])

-- `silent_beside` is a system whose first state has two transitions: an internal transition to a state in which only
-- `b` is possible, and a transition with the label `a`.
abbrev pub silent_beside : System
silent_beside = system 0 4 (edge 0 internal 1 ∷ edge 0 a 2 ∷ edge 1 b 3 ∷ [])

-- `silent_cycle` is a system with two states. An internal transition leads from each state to the other state. In
-- exactly one of the two states, a transition with the label `a` is also possible.
abbrev pub silent_cycle : System
silent_cycle = system 0 2 (edge 0 internal 1 ∷ edge 1 internal 0 ∷ edge 1 a 1 ∷ [])

-- `silent_middle` is a system with a path of three transitions: `a`, an internal transition, and `b`.
abbrev pub silent_middle : System
silent_middle = chain (a ∷ internal ∷ b ∷ [])

-- `hidden_middle_strong_quotient` is the quotient modulo strong bisimilarity of the system that results from `a_then_b`
-- if the label `a` is hidden.
abbrev pub hidden_middle_strong_quotient : System
hidden_middle_strong_quotient = chain (internal ∷ b ∷ [])

-- `silent_chain` is a system with a path of three transitions: two internal transitions, and then `a`.
abbrev pub silent_chain : System
silent_chain = chain (internal ∷ internal ∷ a ∷ [])

-- `option_behind` is a system with an internal transition. In the source of this transition, `a` is also possible. In
-- the target of this transition, only `b` is possible.
abbrev pub option_behind : System
option_behind = system 0 3 (edge 0 a 2 ∷ edge 0 internal 1 ∷ edge 1 b 2 ∷ [])

-- `option_before` is the system `option_behind`, except that `b` is also possible in the source of the internal
-- transition.
abbrev pub option_before : System
option_before = system 0 3 (edge 0 a 2 ∷ edge 0 b 2 ∷ edge 0 internal 1 ∷ edge 1 b 2 ∷ [])

-- `not_committed` is a system in which `a` leads to a state where `b` is possible. An internal transition leads from
-- this state to a state where `b` is no longer possible.
abbrev pub not_committed : System
not_committed = system 0 4 (edge 0 a 1 ∷ edge 1 internal 2 ∷ edge 1 b 3 ∷ [])

-- `committed` is the system `not_committed` with one more transition. This transition has the label `a` and leads
-- directly to the state where `b` is no longer possible.
abbrev pub committed : System
committed = system 0 4 (edge 0 a 1 ∷ edge 0 a 2 ∷ edge 1 internal 2 ∷ edge 1 b 3 ∷ [])

-- `silent_detour` is a system with two paths from the first state. Each path has a transition with the label `a`, and
-- after it a transition with the label `b`. On the longer path, there is an internal transition before each of these
-- two transitions.
abbrev pub silent_detour : System
silent_detour =
    system 0 6 (edge 0 internal 1 ∷ edge 1 a 2 ∷ edge 0 a 3 ∷ edge 2 internal 4 ∷ edge 3 b 5 ∷ edge 4 b 5 ∷ [])

-- `silent_detour_strong_quotient` is the quotient of the system `silent_detour` modulo strong bisimilarity.
abbrev pub silent_detour_strong_quotient : System
silent_detour_strong_quotient =
    system 0 5 (edge 0 a 3 ∷ edge 0 internal 1 ∷ edge 1 a 2 ∷ edge 2 internal 3 ∷ edge 3 b 4 ∷ [])

-- `two_equal_targets` is a system with two transitions with the label `a`. These transitions lead to two different
-- states, neither of which has outgoing transitions.
abbrev pub two_equal_targets : System
two_equal_targets = system 0 3 (edge 0 a 1 ∷ edge 0 a 2 ∷ [])

-- `written_twice` is a system with only one transition, which its list of transitions contains three times.
abbrev pub written_twice : System
written_twice = system 0 2 (edge 0 a 1 ∷ edge 0 a 1 ∷ edge 0 a 1 ∷ [])

-- `unreachable_pair` is a system in which only the first state is reachable.
abbrev pub unreachable_pair : System
unreachable_pair = system 0 3 (edge 1 a 2 ∷ [])

-- `chain_of_three` is a system with a path of three transitions, all with the label `a`.
abbrev pub chain_of_three : System
chain_of_three = chain (a ∷ a ∷ a ∷ [])

-- `unreachable_twin` is a system in which the state 1 is unreachable and bisimilar to the reachable state 3.
abbrev pub unreachable_twin : System
unreachable_twin = system 0 4 (edge 0 a 2 ∷ edge 2 b 3 ∷ [])

-- `first_in_cycle` is a system with two states that form a cycle: from each state, a transition with the label `a`
-- leads to the other state.
abbrev pub first_in_cycle : System
first_in_cycle = system 1 2 (edge 1 a 0 ∷ edge 0 a 1 ∷ [])

-- `first_is_two` is a system in which the first state is the state 2, which has the greatest number of all states.
abbrev pub first_is_two : System
first_is_two = system 2 3 (edge 2 a 0 ∷ edge 0 b 1 ∷ [])

-- `first_leads` is a system whose first state is the state 2. This state is bisimilar to the state 0, and is the leader
-- of these two states, which means that it represents their class. This class has the number 0, which is less than the
-- numbers of all other classes.
abbrev pub first_leads : System
first_leads = system 2 4 (edge 2 a 3 ∷ edge 3 b 0 ∷ edge 0 a 3 ∷ edge 3 c 1 ∷ [])

-- `first_leads_quotient` is the quotient of the system `first_leads` modulo strong bisimilarity.
abbrev pub first_leads_quotient : System
first_leads_quotient = system 0 3 (edge 0 a 2 ∷ edge 2 b 0 ∷ edge 2 c 1 ∷ [])

-- `first_leads_by_size` is a system that is not the quotient of the system `first_leads`. A leader is a state that
-- represents its class. The system results if the leaders are numbered in ascending order, so that the class of the
-- first state of `first_leads` does not get the number 0.
abbrev pub first_leads_by_size : System
first_leads_by_size = system 1 3 (edge 1 a 2 ∷ edge 2 b 1 ∷ edge 2 c 0 ∷ [])
