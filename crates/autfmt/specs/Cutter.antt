-- This file defines a model of the line splitter (`Cutter`). The line splitter takes chunks of bytes from a source (the
-- object from which the input is read), and divides these bytes into lines.
use Rattle.std.specs.Prelude.{◌≡◌, ◌⊎◌, ℕ, ◌<◌, ◌≤◌, Bool, true, false, IsTrue, List, [], ◌∷◌, ◌++◌, length, Option}
use Rattle.std.specs.Prelude.{None, Some, IfSome}
use Rattle.std.specs.List.{slice_range}
use Rattle.std.specs.Io.KnownBytes.{IsAtEnd}
use Rattle.autfmt.specs.Texts.{lines_of, IsOneLine, IsShort}
use Rattle.autfmt.specs.declared.cutter.TheConstants.{CHUNK}
use Rattle.autfmt.specs.declared.line.TheConstants.{LONGEST_LINE}

-- `Cutting` is the state of the line splitter. The field `line` is the line that was split off last. The field `ahead`
-- contains the bytes that were read from the source (the object from which the input is read) but not yet divided into
-- lines. The field `over` is true if the line splitter has reached the end of the source.
pub record Cutting : Type 0 where
  pub line : List ℕ
  pub ahead : List ℕ
  pub over : Bool

-- `cut_line span chunk buffer` is the line that the line splitter has split off last. The bytes that were last read
-- from the input are stored at the beginning of the list `chunk`. If `span` is a range (a start index and an end
-- index), the line consists of the bytes of `chunk` in this range. If `span` is `None`, the line is the list `buffer`,
-- which is the content of the buffer.
abbrev pub cut_line : Option (ℕ × ℕ) → List ℕ → List ℕ → List ℕ
cut_line None chunk buffer = buffer
cut_line (Some span) chunk buffer = slice_range chunk span.0 span.1

-- `IsCutter from to span over` is the invariant of the line splitter. The chunk is an array of `CHUNK` bytes, and its
-- first `to` bytes are the bytes that were last read from the input. The next line begins at the index `from` of the
-- chunk. If `span` is a range, the line that was split off last consists of the bytes of the chunk in this range. If
-- `span` is `None`, this line is in a buffer. The invariant states three facts. First, `from` is at most `to`, and `to`
-- is at most `CHUNK`. Second, if `span` is a range, this range lies within the chunk. Third, if the source (the object
-- from which the input is read) has ended (`over`), then `from` equals `to`, so that all bytes of the chunk have been
-- divided into lines.
pub record IsCutter (from to : ℕ) (span : Option (ℕ × ℕ)) (over : Bool) : Type 0 where
  pub ordered : from ≤ to
  pub within : to ≤ CHUNK
  pub last : IfSome span (λ p. (p.0 ≤ p.1) × (p.1 ≤ CHUNK))
  pub used_up : IsTrue over → from ≡ to

-- `BeginsTooLong bytes` holds if the list `bytes` begins with more than 8192 bytes (`LONGEST_LINE`) that contain no
-- line feed. In this case the first line of the list is too long.
abbrev pub BeginsTooLong : List ℕ → Type 0
BeginsTooLong bytes =
    (front : List ℕ) × (tail : List ℕ) × IsOneLine front × (LONGEST_LINE < length front) × (bytes ≡ front ++ tail)

-- `CutsLine bytes now` holds if the line splitter has split off the first line of the list `bytes`, and `now` is the
-- state of the line splitter after this. The line is `now.line`, and it must have at most 8192 bytes (`LONGEST_LINE`).
-- If the line splitter has not reached the end of the input (`now.over` is false), a line feed follows the line, and
-- `now.ahead` contains the bytes after this line feed. If the line splitter has reached the end of the input, the list
-- `bytes` consists of this line only, which is not empty, and `now.ahead` is empty.
pub record CutsLine (bytes : List ℕ) (now : Cutting) : Type 0 where
  pub one : IsOneLine now.line
  pub short : IsShort now.line
  pub behind :
      ((now.over ≡ false) × (bytes ≡ now.line ++ 10 ∷ now.ahead))
      ⊎ ((now.over ≡ true) × (now.ahead ≡ []) × (1 ≤ length now.line) × (bytes ≡ now.line))

-- `CutsEnd bytes now` holds if all three of the following conditions hold. First, the list `bytes` is empty. Second,
-- the line splitter in the state `now` has divided all bytes that it has read into lines (`now.ahead` is empty). Third,
-- the line splitter has reached the end of the input (`now.over`).
pub record CutsEnd (bytes : List ℕ) (now : Cutting) : Type 0 where
  pub none : bytes ≡ []
  pub ahead : now.ahead ≡ []
  pub over : now.over ≡ true

-- `IsPart bytes` holds if the list `bytes` contains no line feed and has at most 8192 bytes (`LONGEST_LINE`). Such
-- bytes can be a part of one line.
abbrev pub IsPart : List ℕ → Type 0
IsPart bytes = IsOneLine bytes × IsShort bytes

-- `Feeds rest failures at` holds if the line splitter in the state `at` may still read from its source (the object from
-- which the input is read). The argument `rest` contains the bytes that are still to be read from the source, or is
-- `None` if these bytes are not known. The argument `failures` is the number of times that the source has failed so
-- far. `Feeds` requires that the source has not failed. If the line splitter has reached the end of the source
-- (`at.over`), `Feeds` also requires that `rest` contains no bytes.
pub record Feeds (rest : Option (List ℕ)) (failures : ℕ) (at : Cutting) : Type 0 where
  pub sound : failures ≡ 0
  pub end : IsTrue at.over → IsAtEnd rest

-- `HasCut given lines at` holds if the line splitter in the state `at` has divided the bytes `given` into the lines of
-- the list `lines`. The bytes `at.ahead` are the bytes of `given` that are not yet divided into lines, and the bytes
-- `more` are any bytes that may follow `given` in the input. For all `more`, the lines of the whole input
-- (`given ++ more`) must be the lines of the list `lines`, followed by the lines of `at.ahead ++ more`. If the line
-- splitter has reached the end of the input (`at.over`), no bytes follow, so the lines must agree only for the empty
-- list `more`.
abbrev pub HasCut : List ℕ → List (List ℕ) → Cutting → Type 0
HasCut given lines at =
    (more : List ℕ) → (at.over ≡ true → more ≡ []) → lines_of (given ++ more) ≡ lines ++ lines_of (at.ahead ++ more)
