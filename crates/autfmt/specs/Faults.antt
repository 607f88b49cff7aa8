-- This file defines the errors of an input, which is the content of a `.aut` file. If a line of the input is incorrect,
-- the first error of the input is the error of its first incorrect line. If all lines are correct but transitions are
-- missing, the first error is that transitions are missing. If the input has no lines, the first error is that it has
-- no header. An input has at most one first error.
use Rattle.std.specs.Prelude.{◌≡◌, ◌⊎◌, ℕ, ◌+◌, ◌<◌, ◌≤◌, ◌==◌, nat_lt, nat_le, List, [], ◌∷◌, ◌++◌, length, Option}
use Rattle.std.specs.Prelude.{Some, None, if◌then◌else◌}
use Rattle.theory.specs.System.{Transition}
use Rattle.autfmt.specs.declared.fault.Fault.{Fault}
use Rattle.autfmt.specs.declared.fault.Fault.TheVariants.{BadHeader, FirstState, NoStates, TooManyStates}
use Rattle.autfmt.specs.declared.fault.Fault.TheVariants.{TooManyTransitions, LineTooLong, BadEdge, SourceRange}
use Rattle.autfmt.specs.declared.fault.Fault.TheVariants.{TargetRange, ExtraText, MissingEdges}
use Rattle.autfmt.specs.declared.line.TheConstants.{LONGEST_LINE}
use Rattle.autfmt.specs.Bounds.{Bounds}
use Rattle.autfmt.specs.Grammar.{Header, TransitionLine}
use Rattle.autfmt.specs.Texts.{lines_of, IsShort, GoodHeader, SpellsAmong}

-- `LineFault IsRead fault_in k bad line fault` holds if `fault` is the error of `line`, which is line k of an input.
-- `IsRead x` states that the line has the contents x, and `fault_in x` is the error in x, or `None` if x has no error.
-- There are three possible errors. First, the line has more than 8192 bytes (`LONGEST_LINE`). Second, the line is not
-- too long, but has no contents. In this case, `fault` is the error `bad`. Third, the line is not too long and has the
-- contents x, and `fault` is the error in x. If a line is not allowed because too many lines come before it, its error
-- is defined by `BadLine`, or by `BadHideLine` if the input is a hide list (the labels to hide).
pub data LineFault {X : Type 0} (IsRead : X → Type 0) (fault_in : X → Option Fault) (k : ℕ) (bad : Fault)
    (line : List ℕ) (fault : Fault) : Type 0 where
  too_long : fault ≡ LineTooLong k → LONGEST_LINE < length line → LineFault IsRead fault_in k bad line fault
  unread : fault ≡ bad → IsShort line → ((x : X) → ¬ IsRead x) → LineFault IsRead fault_in k bad line fault
  wrong : (x : X) → IsShort line → IsRead x → fault_in x ≡ Some fault → LineFault IsRead fault_in k bad line fault

-- `numbers_fault bounds (f, m, n)` is the error in the numbers of a header, or `None` if these numbers have no error.
-- The header declares the first state f, m transitions and n states, and `bounds` are the limits on m and n. If the
-- numbers have several of the errors below, the result is the first of these errors.
abbrev pub numbers_fault : Bounds → ℕ × ℕ × ℕ → Option Fault
numbers_fault bounds (f, m, n) =
    if n == 0 then Some NoStates else if nat_le n f then Some FirstState else
    if nat_lt bounds.states n then Some TooManyStates else
    if nat_lt bounds.transitions m then Some TooManyTransitions else None

-- `HeaderFault bounds line fault` holds if `line`, which is line 1 of an input, is not a correct header, and `fault` is
-- the error of this line. The limits `bounds` restrict the numbers that a header may declare.
abbrev pub HeaderFault : Bounds → List ℕ → Fault → Type 0
HeaderFault bounds line = LineFault (λ x. Header line x.0 x.1 x.2) (numbers_fault bounds) 1 BadHeader line

-- `ends_fault n k (s, a, t)` is the error in the source and the target of a transition, or `None` if there is no error.
-- The transition is on line k, and leads from s to t with the label a. The system has n states, which are the numbers
-- less than n. If neither s nor t is a state of the system, the result is the error of the source s.
abbrev pub ends_fault : ℕ → ℕ → ℕ × List ℕ × ℕ → Option Fault
ends_fault n k (s, a, t) =
    if nat_le n s then Some (SourceRange k) else if nat_le n t then Some (TargetRange k) else None

-- `EdgeFault n k line fault` holds if `line`, which is line k of an input, is not a transition between states of a
-- system with n states, and `fault` is the error of this line.
abbrev pub EdgeFault : ℕ → ℕ → List ℕ → Fault → Type 0
EdgeFault n k line = LineFault (λ x. TransitionLine line x.0 x.1 x.2) (ends_fault n k) k (BadEdge k) line

-- `FaultFrom Good Bad end_fault before lines fault` holds if `fault` is the first error of an input in the lines
-- `lines`, which follow the correct lines that `before` describes. `Good before line next` states that `line` is
-- correct if it follows the lines that `before` describes, and that `next` describes these lines and `line`.
-- `Bad before line f` states that f is the error of `line` if it follows the lines that `before` describes.
-- `end_fault before` is the error of an input that ends after these lines, or `None` if there is no error. If some of
-- the lines `lines` have an error, `fault` is the error of the first such line. If none of them has an error, `fault`
-- is the error of an input that ends after the lines `lines`.
abbrev pub FaultFrom : {S : Type 0} → (S → List ℕ → S → Type 0) → (S → List ℕ → Fault → Type 0) → (S → Option Fault) →
    S → List (List ℕ) → Fault → Type 0
FaultFrom Good Bad end_fault before [] fault = end_fault before ≡ Some fault
FaultFrom {S = S} Good Bad end_fault before (line ∷ others) fault =
    Bad before line fault ⊎ ((next : S) × Good before line next × FaultFrom Good Bad end_fault next others fault)

-- A value of the type `LinesBefore` describes the lines of an input before a certain line. The value is `None` if there
-- are no such lines. It is `Some (m, n, found)` if these lines are a correct header, which declares m transitions and n
-- states, and `found` correct transitions.
abbrev pub LinesBefore : Type 0
LinesBefore = Option (ℕ × ℕ × ℕ)

-- `GoodLine bounds before line next` holds if `line` is a correct header or a correct transition of an input, where
-- `before` describes the lines before `line`, and `next` describes the lines up to `line`. The limits `bounds` restrict
-- the numbers that a header may declare. A line that follows the last transition that the header declares is not
-- correct.
abbrev pub GoodLine : Bounds → LinesBefore → List ℕ → LinesBefore → Type 0
GoodLine bounds None line next = (f m n : ℕ) × GoodHeader bounds line f m n × (next ≡ Some (m, n, 0))
GoodLine bounds (Some (m, n, found)) line next =
    (found < m) × ((e : Transition) × SpellsAmong n line e × (next ≡ Some (m, n, found + 1)))

-- `BadLine bounds before line fault` holds if `line` is not correct, and `fault` is the error of this line, where
-- `before` describes the lines before `line`. The error of line 1 is defined by `HeaderFault`. A line that follows the
-- last transition that the header declares has the error `ExtraText`. The error of any other line is defined by
-- `EdgeFault`.
abbrev pub BadLine : Bounds → LinesBefore → List ℕ → Fault → Type 0
BadLine bounds None line fault = HeaderFault bounds line fault
BadLine bounds (Some (m, n, found)) line fault =
    ((found < m) × EdgeFault n (found + 2) line fault) ⊎ ((m ≤ found) × (fault ≡ ExtraText (found + 2)))

-- `end_fault before` is the error of an input that consists of the lines that `before` describes, or `None` if there is
-- no error. If the input has no lines, the error is that it has no header. If it has fewer transitions than its header
-- declares, the error is that transitions are missing.
abbrev pub end_fault : LinesBefore → Option Fault
end_fault None = Some BadHeader
end_fault (Some (m, n, found)) = if nat_lt found m then Some (MissingEdges found) else None

-- `FirstFault bounds text fault` holds if `fault` is the first error of the input `text`, where the header may declare
-- only numbers within the limits `bounds`.
pub record FirstFault (bounds : Bounds) (text : List ℕ) (fault : Fault) : Type 0 where
  pub first : FaultFrom (GoodLine bounds) (BadLine bounds) end_fault None (lines_of text) fault

-- `JudgedFault bounds given fault` holds if `fault` is the first error of every input that begins with the bytes
-- `given`. Therefore a reader that has read only these bytes can already report the error.
abbrev pub JudgedFault : Bounds → List ℕ → Fault → Type 0
JudgedFault bounds given fault = (more : List ℕ) → FirstFault bounds (given ++ more) fault
