-- This file defines the lines of an input, and the system that an input denotes.
use Rattle.std.specs.Prelude.{◌≡◌, ◌≢◌, ℕ, ◌<◌, ◌≤◌, ◌==◌, List, [], ◌∷◌, length, if◌then◌else◌}
use Rattle.std.specs.List.{All, AllZip, onto_first}
use Rattle.theory.specs.System.{System, Transition, IsAmong}
use Rattle.autfmt.specs.declared.line.TheConstants.{LONGEST_LINE}
use Rattle.autfmt.specs.Bounds.{Bounds}
use Rattle.autfmt.specs.Grammar.{Header, TransitionLine}

-- `lines_of text` is the list of the lines of the text. The line feeds divide the text into parts, and these parts are
-- the lines, in their order. If the last part is empty, it is not a line, so the empty text has no lines. The function
-- `onto_first` puts a byte in front of the first line of a list. If the list is empty, the result is one line, which
-- consists of this byte.
abbrev pub lines_of : List ℕ → List (List ℕ)
lines_of [] = []
lines_of (b ∷ bs) = if b == 10 then [] ∷ lines_of bs else onto_first b (lines_of bs)

-- `Lines text lines` holds if `lines` is the list of the lines of the text.
abbrev pub Lines : List ℕ → List (List ℕ) → Type 0
Lines text lines = lines_of text ≡ lines

-- `IsOneLine line` holds if the bytes of the line contain no line feed.
abbrev pub IsOneLine : List ℕ → Type 0
IsOneLine line = All (λ b. b ≢ 10) line

-- `IsShort line` holds if the line has at most 8192 bytes (`LONGEST_LINE`), without its line feed.
abbrev pub IsShort : List ℕ → Type 0
IsShort line = length line ≤ LONGEST_LINE

-- `GoodHeader bounds line f m n` holds if the line is a correct header, which declares the first state f, m transitions
-- and n states. The line must not be too long. The first state f must be less than n, because the states of a system
-- are the numbers less than the number of its states. The numbers m and n must be within the limits `bounds`.
pub record GoodHeader (bounds : Bounds) (line : List ℕ) (f m n : ℕ) : Type 0 where
  pub short : IsShort line
  pub header : Header line f m n
  pub first : f < n
  pub states : n ≤ bounds.states
  pub transitions : m ≤ bounds.transitions

-- `SpellsTransition line e` holds if the line denotes the transition e, and has at most 8192 bytes (`LONGEST_LINE`).
abbrev pub SpellsTransition : List ℕ → Transition → Type 0
SpellsTransition line e = IsShort line × TransitionLine line e.source e.label e.target

-- `SpellsAmong n line e` holds if the line denotes the transition e and has at most 8192 bytes (`SpellsTransition`),
-- the label of e is valid, and the source and the target of e are states of a system with n states (that is, numbers
-- less than n).
abbrev pub SpellsAmong : ℕ → List ℕ → Transition → Type 0
SpellsAmong n line e = SpellsTransition line e × IsAmong n e

-- `Reads bounds text A` holds if the text denotes the system A. The first line of the text is a header, which declares
-- the first state of A, the number of its transitions and the number of its states. These numbers are within the limits
-- `bounds`. Each further line denotes one transition of A, in the order in which A lists its transitions. The label of
-- each transition must be valid, and the first state, the sources and the targets must be states of A. So A is
-- well-formed.
pub record Reads (bounds : Bounds) (text : List ℕ) (A : System) : Type 0 where
  pub header : List ℕ
  pub lines : List (List ℕ)
  pub whole : Lines text (header ∷ lines)
  pub good : GoodHeader bounds header A.first (length A.transitions) A.states
  pub spelled : AllZip (SpellsAmong A.states) lines A.transitions
