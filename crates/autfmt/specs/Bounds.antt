-- This file defines the limits that a reader of `.aut` files enforces: how many states and how many transitions an
-- input may have.
use Rattle.std.specs.Prelude.{ℕ, ◌≤◌}
use Rattle.autfmt.specs.declared.limits.TheConstants.{FILE_STATES, FILE_TRANSITIONS}

-- `Bounds` contains the limits that a reader enforces on a header: the largest number of states and the largest number
-- of transitions that a header may declare.
pub record Bounds : Type 0 where
  pub states : ℕ
  pub transitions : ℕ

-- `bounds s t` are the limits that allow at most s states and at most t transitions.
abbrev pub bounds : ℕ → ℕ → Bounds
bounds s t = record { states = s; transitions = t }

-- `file_bounds` are the limits on states and transitions for files, which are the constants `FILE_STATES` and
-- `FILE_TRANSITIONS`.
abbrev pub file_bounds : Bounds
file_bounds = bounds FILE_STATES FILE_TRANSITIONS

-- `IsWithinFile b` holds if the limits b allow at least one state, and do not exceed the limits for files
-- (`file_bounds`).
pub record IsWithinFile (b : Bounds) : Type 0 where
  pub some_state : 1 ≤ b.states
  pub states : b.states ≤ FILE_STATES
  pub transitions : b.transitions ≤ FILE_TRANSITIONS
