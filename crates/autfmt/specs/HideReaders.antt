-- These definitions state which results the function that reads a hide list (the labels to hide) may return: the labels
-- of the list, or an error in the list.
use Rattle.std.specs.Prelude.{◌↔◌, ℕ, List, Contains, ⊤}
use Rattle.autfmt.specs.declared.fault.Fault.{Fault}
use Rattle.autfmt.specs.declared.fault.Fault.TheVariants.{LineTooLong, BadHide, TooManyHidden}
use Rattle.autfmt.specs.HideLists.{HideReads}

-- `IsHideFault fault` holds if `fault` is a possible error in the contents of a hide list (the labels to hide).
-- `IsHideFault` does not hold for a failed allocation or for a failure to read the list.
abbrev pub IsHideFault : Fault → Type 0
IsHideFault (LineTooLong k) = ⊤
IsHideFault (BadHide k) = ⊤
IsHideFault TooManyHidden = ⊤
IsHideFault _ = ⊥

-- `SameLabels hidden H` holds if the lists `hidden` and H contain the same labels. The order of the labels and the
-- number of their repetitions may differ.
abbrev pub SameLabels : List (List ℕ) → List (List ℕ) → Type 0
SameLabels hidden H = (a : List ℕ) → Contains hidden a ↔ Contains H a

-- `HidesAs whole hidden` holds if the bytes `whole` are a correct hide list (labels to hide, one on each line), and the
-- list `hidden` contains exactly the labels of this hide list. The order of the labels and the number of their
-- repetitions may differ.
abbrev pub HidesAs : List ℕ → List (List ℕ) → Type 0
HidesAs whole hidden = (H : List (List ℕ)) × HideReads whole H × SameLabels hidden H
