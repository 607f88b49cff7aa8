-- This file defines when further bytes fit into the buffer for one line.
use Rattle.std.specs.Prelude.{ℕ, ◌+◌, ◌≤◌, List, length}
use Rattle.autfmt.specs.declared.line.TheConstants.{LONGEST_LINE}

-- `Fits line bs` holds if the bytes bs can be appended to the line: the line and bs have at most 8192 bytes together
-- (`LONGEST_LINE`).
abbrev pub Fits : List ℕ → List ℕ → Type 0
Fits line bs = length line + length bs ≤ LONGEST_LINE
