-- Strong bisimulation (Milner 1989) and branching bisimulation in its symmetric form (van Glabbeek and Weijland 1996).
use Rattle.std.specs.Prelude.{◌≡◌, ◌⊎◌, ℕ, ◌<◌, List}
use Rattle.std.specs.List.{Contains}
use Rattle.theory.specs.System.{System, Step, Silent, internal}
use Rattle.theory.specs.declared.relation.Relation.{Relation}
use Rattle.theory.specs.declared.relation.Relation.TheVariants.{Strong as strong, Branching as branching}

-- Let R be a relation between the states of A and the states of B. `StronglyMatches` holds if the state t of B matches
-- each step of the state s of A. This means that B has a step from t with the same label, and that R relates the
-- targets of the two steps (Milner 1989).
abbrev pub StronglyMatches : System → System → (ℕ → ℕ → Type 0) → ℕ → ℕ → Type 0
StronglyMatches A B R s t = (a : List ℕ) (s' : ℕ) → Step A s a s' → (t' : ℕ) × Step B t a t' × R s' t'

-- Let R be a relation between the states of A and the states of B. `BranchingMatches` holds if the state s of B matches
-- each step of the state r of A in the sense of branching bisimulation (van Glabbeek and Weijland 1996). A step with
-- the label a from r to the state r' is matched if a is the internal label and R relates r' to s. The step is also
-- matched if B has a silent path (a path of internal steps) from s to some state s1, and a step with the label a from
-- s1 to some state s'. The relation R must then relate r to s1, and r' to s'.
abbrev pub BranchingMatches : System → System → (ℕ → ℕ → Type 0) → ℕ → ℕ → Type 0
BranchingMatches A B R r s =
    (a : List ℕ) (r' : ℕ) → Step A r a r' →
    ((a ≡ internal) × R r' s) ⊎ ((s1 s' : ℕ) × Silent B s s1 × Step B s1 a s' × R r s1 × R r' s')

-- Let R be a relation between the states of A and the states of B. `Matches` holds if the state t of B matches each
-- step of the state s of A with respect to R, in the sense of strong or of branching bisimulation.
abbrev pub Matches : Relation → System → System → (ℕ → ℕ → Type 0) → ℕ → ℕ → Type 0
Matches strong A B R s t = StronglyMatches A B R s t
Matches branching A B R s t = BranchingMatches A B R s t

-- `Pairs` is the relation that the list `pairs` defines. This relation relates the state s to the state t if the list
-- contains the pair (s, t).
abbrev pub Pairs : List (ℕ × ℕ) → ℕ → ℕ → Type 0
Pairs pairs s t = Contains pairs (s, t)

-- `Converse` is the converse of the relation R. The converse relates the state t to the state s if R relates s to t.
abbrev pub Converse : (ℕ → ℕ → Type 0) → ℕ → ℕ → Type 0
Converse R t s = R s t

-- `IsBisimulation` holds if R is a bisimulation between A and B. This means that both of the following conditions hold.
-- First, if R relates the number s to the number t, then s is a state of A, and t is a state of B. Second, any two
-- states that R relates match each other's steps.
pub record IsBisimulation (rel : Relation) (A B : System) (R : ℕ → ℕ → Type 0) : Type 0 where
  pub states : (s t : ℕ) → R s t → (s < A.states) × (t < B.states)
  pub forth : (s t : ℕ) → R s t → Matches rel A B R s t
  pub back : (s t : ℕ) → R s t → Matches rel B A (Converse R) t s

-- `Strong` holds if the list of pairs is a strong bisimulation between A and B (Milner 1989).
abbrev pub Strong : System → System → List (ℕ × ℕ) → Type 0
Strong A B pairs = IsBisimulation strong A B (Pairs pairs)

-- `Branching` holds if the list of pairs is a branching bisimulation between A and B (van Glabbeek and Weijland 1996).
abbrev pub Branching : System → System → List (ℕ × ℕ) → Type 0
Branching A B pairs = IsBisimulation branching A B (Pairs pairs)

-- `Bisimilar` holds if the state s of A and the state t of B are bisimilar. This means that some list of pairs of
-- states is a bisimulation between A and B and contains the pair (s, t).
abbrev pub Bisimilar : Relation → System → ℕ → System → ℕ → Type 0
Bisimilar rel A s B t = (pairs : List (ℕ × ℕ)) × IsBisimulation rel A B (Pairs pairs) × Pairs pairs s t

-- `Equivalent` holds if the systems A and B are equivalent: their first states are bisimilar.
abbrev pub Equivalent : Relation → System → System → Type 0
Equivalent rel A B = Bisimilar rel A A.first B B.first
