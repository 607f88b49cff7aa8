-- The disjoint union of two systems.
use Rattle.std.specs.Prelude.{ℕ, ◌+◌, ◌++◌, map}
use Rattle.theory.specs.System.{System, Transition}

-- States are numbers. `shifted` is the transition e with the number n added to its source and to its target.
abbrev pub shifted : ℕ → Transition → Transition
shifted n e = record { source = n + e.source; label = e.label; target = n + e.target }

-- `union_of` is the disjoint union of A and B. A state of A has the same number in the union as in A. A state t of B
-- has the number `A.states + t` in the union. The first state of the union is the first state of A.
abbrev pub union_of : System → System → System
union_of A B = record {
  first = A.first;
  states = A.states + B.states;
  transitions = A.transitions ++ map (shifted A.states) B.transitions;
}
