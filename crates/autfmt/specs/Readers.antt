-- These definitions are about the result of reading an input, which is a system in memory or an error.
use Rattle.std.specs.Prelude.{ℕ, List, ◌∷◌, ⊤}
use Rattle.theory.specs.System.{System, Hide}
use Rattle.lts.specs.Lts.{Grouped, system_of, Groups}
use Rattle.autfmt.specs.declared.fault.Fault.{Fault}
use Rattle.autfmt.specs.declared.fault.Fault.TheVariants.{Device, Memory, BadHide, TooManyHidden}
use Rattle.autfmt.specs.Bounds.{Bounds}
use Rattle.autfmt.specs.Texts.{Lines, GoodHeader, Reads}

-- `IsTextFault fault` holds if `fault` is a possible error in the contents of an input for a system. `IsTextFault` does
-- not hold for the errors that only a hide list (the labels to hide) can have, for failed allocations, and for failures
-- of the source (the object from which the input is read) or of the sink (the object to which the output is written).
abbrev pub IsTextFault : Fault → Type 0
IsTextFault Device = ⊥
IsTextFault Memory = ⊥
IsTextFault (BadHide k) = ⊥
IsTextFault TooManyHidden = ⊥
IsTextFault _ = ⊤

-- `HasGoodHeader bounds text` holds if line 1 of the input `text` is a correct header within the limits `bounds`.
abbrev pub HasGoodHeader : Bounds → List ℕ → Type 0
HasGoodHeader bounds text =
    (line : List ℕ) × (others : List (List ℕ)) × (f m n : ℕ) × Lines text (line ∷ others) × GoodHeader bounds line f m n

-- `ReadsAs bounds text H s` holds if the input `text` denotes a system A within the limits `bounds`, and s represents
-- the system that results from A in two steps. First, each label in the list H is replaced by the internal label `i`.
-- Then the transitions are grouped by source.
abbrev pub ReadsAs : Bounds → List ℕ → List (List ℕ) → Grouped → Type 0
ReadsAs bounds text H s = (A : System) × Reads bounds text A × Groups (Hide H A) (system_of s)
