-- A hide list contains the labels to hide, one on each line. This file defines the labels of a hide list, and the first
-- error of an incorrect hide list.
use Rattle.std.specs.Prelude.{◌≡◌, ◌⊎◌, ℕ, ◌+◌, ◌<◌, ◌≤◌, List, ◌++◌, length, None}
use Rattle.std.specs.List.{AllZip}
use Rattle.autfmt.specs.declared.fault.Fault.{Fault}
use Rattle.autfmt.specs.declared.fault.Fault.TheVariants.{BadHide, TooManyHidden}
use Rattle.autfmt.specs.declared.limits.TheConstants.{MOST_LINES}
use Rattle.autfmt.specs.Grammar.{HideLine}
use Rattle.autfmt.specs.Texts.{lines_of, Lines, IsShort}
use Rattle.autfmt.specs.Faults.{LineFault, FaultFrom}

-- `Hides line a` holds if the line is a correct line of a hide list with the label a, and has at most 8192 bytes.
abbrev pub Hides : List ℕ → List ℕ → Type 0
Hides line a = IsShort line × HideLine line a

-- `HideReads text H` holds if the bytes `text` are a correct hide list with at most `MOST_LINES` lines, and H is the
-- list of the labels on its lines, in the order of the lines. A hide list contains the labels to hide, one on each
-- line.
abbrev pub HideReads : List ℕ → List (List ℕ) → Type 0
HideReads text H = (lines : List (List ℕ)) × Lines text lines × (length lines ≤ MOST_LINES) × AllZip Hides lines H

-- `HideFault k line fault` holds if `line`, which is line k of a hide list (the labels to hide), is not a correct line,
-- and `fault` is the error of this line.
abbrev pub HideFault : ℕ → List ℕ → Fault → Type 0
HideFault k line = LineFault (HideLine line) (λ a. None) k (BadHide k) line

-- `GoodHideLine found line next` holds if `line`, which follows `found` correct lines of a hide list (the labels to
-- hide), is correct, if `found` is less than `MOST_LINES`, and if `next` is `found + 1`.
abbrev pub GoodHideLine : ℕ → List ℕ → ℕ → Type 0
GoodHideLine found line next = (found < MOST_LINES) × ((a : List ℕ) × Hides line a × (next ≡ found + 1))

-- `BadHideLine found line fault` holds if `fault` is the error of `line`, which follows `found` correct lines of a hide
-- list (the labels to hide). A line that follows `MOST_LINES` other lines has the error `TooManyHidden`. The error of
-- any other line is defined by `HideFault`.
abbrev pub BadHideLine : ℕ → List ℕ → Fault → Type 0
BadHideLine found line fault =
    ((found < MOST_LINES) × HideFault (found + 1) line fault) ⊎ ((MOST_LINES ≤ found) × (fault ≡ TooManyHidden))

-- `FirstHideFault text fault` holds if `fault` is the first error of the hide list `text` (the labels to hide). This
-- means that some line of the hide list has this error, and that no earlier line has an error. The end of a hide list
-- is never an error, because a hide list may have any number of lines up to `MOST_LINES`.
pub record FirstHideFault (text : List ℕ) (fault : Fault) : Type 0 where
  pub first : FaultFrom GoodHideLine BadHideLine (λ found. None) 0 (lines_of text) fault

-- `JudgedHideFault given fault` holds if every hide list that begins with the bytes `given` has the first error
-- `fault`. A hide list is a file that contains the labels to hide. Therefore a reader that has read only these bytes
-- can already report the error.
abbrev pub JudgedHideFault : List ℕ → Fault → Type 0
JudgedHideFault given fault = (more : List ℕ) → FirstHideFault (given ++ more) fault
