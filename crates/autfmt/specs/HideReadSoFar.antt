-- These definitions relate the lines of a hide list (the labels to hide) that have been read so far to the labels that
-- the reader has stored.
use Rattle.std.specs.Prelude.{ℕ, List}
use Rattle.std.specs.List.{AllZip}
use Rattle.autfmt.specs.HideLists.{Hides}
use Rattle.autfmt.specs.HideReaders.{SameLabels}
use Rattle.autfmt.specs.Cutter.{Cutting, HasCut}

-- `HideReadSoFar given at H hidden` holds if all three of the following conditions hold. First, the line splitter
-- (`Cutter`) in the state `at` has divided the bytes `given` into lines. Second, H is the list of the labels on these
-- lines. Third, the list `hidden`, which the reader has stored, contains the same labels as H.
pub record HideReadSoFar (given : List ℕ) (at : Cutting) (H hidden : List (List ℕ)) : Type 0 where
  pub lines : List (List ℕ)
  pub cut : HasCut given lines at
  pub named : AllZip Hides lines H
  pub same : SameLabels hidden H
