-- Defines the quotient of a system modulo strong or branching bisimilarity. The quotient has one state for each class
-- of bisimilar reachable states. The definition mentions bisimilarity, but no algorithm.
use Rattle.std.specs.Prelude.{◌≡◌, ◌≢◌, ◌⊎◌, ◌↔◌, ℕ, ◌+◌, ◌*◌, ◌<◌, ◌≤◌, List, length}
use Rattle.std.specs.List.{Contains, AllPairs}
use Rattle.std.specs.List.Sorted.{IsStrictlyIncreasing}
use Rattle.theory.specs.System.{System, Transition, Step, Reachable, internal}
use Rattle.theory.specs.Bisimulation.{Bisimilar}
use Rattle.theory.specs.declared.relation.Relation.{Relation}
use Rattle.theory.specs.declared.relation.Relation.TheVariants.{Strong, Branching}

-- `Least` holds if n is the least number for which the property P holds.
abbrev pub Least : (ℕ → Type 0) → ℕ → Type 0
Least P n = P n × ((k : ℕ) → P k → n ≤ k)

-- `HowMany` holds if the property P holds for exactly n numbers: some strictly increasing list of length n contains
-- exactly these numbers.
abbrev pub HowMany : (ℕ → Type 0) → ℕ → Type 0
HowMany P n = (xs : List ℕ) × IsStrictlyIncreasing xs × ((k : ℕ) → Contains xs k ↔ P k) × (length xs ≡ n)

-- `Fellow` holds if the state t is reachable and bisimilar to the state s.
abbrev pub Fellow : Relation → System → ℕ → ℕ → Type 0
Fellow rel A s t = Reachable A t × Bisimilar rel A s A t

-- The leader of a reachable state s is the state that represents the class of s. `Leader` holds if the state l is the
-- leader of s. If s is bisimilar to the first state, the first state is the leader. Otherwise, the leader is the least
-- reachable state that is bisimilar to s.
abbrev pub Leader : Relation → System → ℕ → ℕ → Type 0
Leader rel A s l =
    (Bisimilar rel A s A A.first × (l ≡ A.first)) ⊎ (¬ Bisimilar rel A s A A.first × Least (Fellow rel A s) l)

-- `IsLeader` holds if the state l is a leader: it represents the class of some reachable state.
abbrev pub IsLeader : Relation → System → ℕ → Type 0
IsLeader rel A l = (s : ℕ) × Reachable A s × Leader rel A s l

-- In the quotient, each class of bisimilar reachable states becomes one state, and the class number of a reachable
-- state s is the number of the quotient state that the class of s becomes. `Number` holds if n is the class number of
-- s. The leader of a state is the state of the system that represents its class. States are numbers. If the leader of s
-- is the first state, n is 0. Otherwise, n is 1 plus the number of leaders that are less than the leader of s and
-- differ from the first state.
abbrev pub Number : Relation → System → ℕ → ℕ → Type 0
Number rel A s n =
    (l : ℕ) × Leader rel A s l
    × (((l ≡ A.first) × (n ≡ 0))
    ⊎ ((l ≢ A.first) × (k : ℕ) × HowMany (λ m. IsLeader rel A m × (m < l) × (m ≢ A.first)) k × (n ≡ 1 + k)))

-- `IsDropped` holds if the quotient leaves out the transition e. For branching bisimilarity, the quotient leaves out
-- each internal transition from a state to itself. For strong bisimilarity, it leaves out no transition.
abbrev pub IsDropped : Relation → Transition → Type 0
IsDropped Strong e = ⊥
IsDropped Branching e = (e.label ≡ internal) × (e.source ≡ e.target)

-- `ShowsNothing` holds if the step with the label a from the state s to the state t is inert with respect to
-- bisimilarity. For branching bisimilarity, this means that a is the internal label and that s and t are bisimilar. For
-- strong bisimilarity, no step is inert.
abbrev pub ShowsNothing : Relation → System → ℕ → List ℕ → ℕ → Type 0
ShowsNothing Strong A s a t = ⊥
ShowsNothing Branching A s a t = (a ≡ internal) × Bisimilar Branching A s A t

-- `IsQuotientStep` holds if the transition e between quotient states represents some step of A from a reachable state.
-- The step has the label of e. The source of e is the quotient state that represents the source of the step, and the
-- target of e is the quotient state that represents the target of the step (`Number`).
abbrev pub IsQuotientStep : Relation → System → Transition → Type 0
IsQuotientStep rel A e =
    (s t : ℕ) × Reachable A s × Step A s e.label t × Number rel A s e.source × Number rel A t e.target

-- `Quotient` holds if Q is the quotient of A. This means that all three of the following conditions hold. First, the
-- number of states of Q is the number of leaders, which are the states that represent the classes of bisimilar states.
-- Second, the first state of Q is 0. Third, the list of transitions of Q contains exactly once each transition that
-- represents a step of A (`IsQuotientStep`), except for the transitions that the quotient leaves out (`IsDropped`). The
-- list contains no other transitions.
pub record Quotient (rel : Relation) (A Q : System) : Type 0 where
  pub states : HowMany (IsLeader rel A) Q.states
  pub first : Q.first ≡ 0
  pub transitions : (e : Transition) → Contains Q.transitions e ↔ (IsQuotientStep rel A e × ¬ IsDropped rel e)
  pub once : AllPairs (λ e f. e ≢ f) Q.transitions

-- `allowance` is an upper bound on the number of visits (reads of transitions that the meter counts) that minimising a
-- system may make. The system has n states and m transitions, and its refinement takes r rounds.
abbrev pub allowance : Relation → ℕ → ℕ → ℕ → ℕ
allowance Strong n m r = (r + 2) * m
allowance Branching n m r = (r * n + 2) * m
