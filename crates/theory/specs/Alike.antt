-- Defines when two systems have the same first state, the same number of states, and the same transitions. The order of
-- the transitions, and how often a transition is repeated, do not matter.
use Rattle.std.specs.Prelude.{◌≡◌, ◌↔◌, ℕ, List}
use Rattle.theory.specs.System.{System, Step}

-- `SameSteps` holds if A and B have the same first state, the same number of states, and the same steps.
pub record SameSteps (A B : System) : Type 0 where
  pub first : A.first ≡ B.first
  pub states : A.states ≡ B.states
  pub steps : (s : ℕ) (a : List ℕ) (t : ℕ) → Step A s a t ↔ Step B s a t
