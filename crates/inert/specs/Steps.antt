-- Defines the model of a `Lens`, which is a view of a system and of the block of each state. This file also defines
-- which transitions are inert.
use Rattle.std.specs.Prelude.{◌≡◌, ℕ, List, [], length, Option, None, Some, MatchOption}
use Rattle.std.specs.Borrow.{Bor}
use Rattle.std.specs.List.{Contains}
use Rattle.theory.specs.System.{internal}
use Rattle.lts.specs.Labels.{text_of, IsLabelId}
use Rattle.lts.specs.Lts.{Grouped, Triple, label_of, target_of}
use Rattle.lts.specs.Visited.{AreVisited, remaining_of}
use Rattle.inert.specs.Signed.{pair_under}
use Rattle.inert.specs.declared.lens.Step.{Step}
use Rattle.inert.specs.declared.lens.Step.TheVariants.{Inert, Shows}

-- `Under` consists of a system `l`, the block of each state (`blocks`), and the places (indices) of the transitions
-- that were already visited in the round (`visited`). A visit is a read of a transition that the meter counts.
pub record Under : Type 0 where
  pub l : Grouped
  pub blocks : List ℕ
  pub visited : List ℕ

-- Returns the record `Under` that consists of the system l, the block of each state, and the places (indices) of the
-- transitions that were visited.
abbrev pub under : Grouped → List ℕ → List ℕ → Under
under l blocks visited = record { l = l; blocks = blocks; visited = visited }

-- The argument is `None`, or contains the list of the places (indices) of the visited transitions. Returns this list,
-- or the empty list if the argument is `None`.
abbrev pub given : Option (Bor (List ℕ)) → List ℕ
given None = []
given (Some visited) = visited.now

-- Returns the transitions of the system that were not yet visited (read and counted) in the round.
abbrev pub remaining : Under → List Triple
remaining u = remaining_of u.visited u.l.places

-- The place of a transition is its index in the list of all transitions. `FitsSystem` holds if both of the following
-- conditions hold. First, the list `blocks` contains exactly one entry for each state of the system. Second, each place
-- in the list `visited` is the place of a transition of the system, and occurs only once in this list.
pub record FitsSystem (u : Under) : Type 0 where
  pub size : length u.blocks ≡ u.l.states
  pub visited : AreVisited u.l.places u.visited

-- `Sees` is the invariant of a `Lens`, which is a view of a system and of the block of each state. It holds if both of
-- the following conditions hold. First, the blocks and the places (indices) of the visited transitions belong to the
-- system (`FitsSystem`). Second, `id` is the ID of the internal label, or `None` if the label table does not contain
-- the internal label.
pub record Sees (u : Under) (id : Option ℕ) : Type 0 where
  pub fits : FitsSystem u
  pub internal : MatchOption id (¬ Contains u.l.labels internal) (λ k. IsLabelId u.l.labels k internal)

-- Let e be a transition whose source is in `block`. `IsInert` holds if e is internal and its target is in `block` too.
abbrev pub IsInert : Under → ℕ → Triple → Type 0
IsInert u block e = (text_of u.l.labels (label_of e) ≡ internal) × ((pair_under u.blocks e).1 ≡ block)

-- Let e be a transition whose source is in `block`. `IsStep` holds if the given value of type `Step` describes e. If e
-- is inert, the value is `Inert` with the target of e. If e is not inert, the value is `Shows` with the pair (label ID,
-- target block) of e.
abbrev pub IsStep : Under → ℕ → Triple → Step → Type 0
IsStep u block e (Inert t) = IsInert u block e × (t ≡ target_of e)
IsStep u block e (Shows k b) = ¬ IsInert u block e × ((k, b) ≡ pair_under u.blocks e)
