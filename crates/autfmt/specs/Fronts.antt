-- The writer prepares some bytes once and copies them into many lines. This file defines two kinds of such bytes. The
-- first kind is the bytes before the label, which are the same in all lines of transitions with the same source. The
-- second kind is the written form of a short label (at most 28 bytes).
use Rattle.std.specs.Prelude.{◌≡◌, ℕ, ◌<◌, ◌≤◌, List, [], ◌++◌, length, get_or, take, codes, decimal}
use Rattle.autfmt.specs.declared.spelling.Spelled.{Spelled}
use Rattle.autfmt.specs.Written.{written_label}

-- `written_front source` is the front of the line of a transition with this source. The front of a line consists of all
-- bytes before the label.
abbrev pub written_front : ℕ → List ℕ
written_front source = codes "(" ++ decimal source ++ codes ", "

-- `IsFront source len bytes` holds if the first `len` bytes of the array `bytes` are the front of a line (all bytes
-- before the label) for a transition with the source `source`. The front has at most 13 bytes.
pub record IsFront (source len : ℕ) (bytes : List ℕ) : Type 0 where
  pub short : len ≤ 13
  pub front : take len bytes ≡ written_front source

-- `written_word label` is the written form of the label, followed by the comma and the space that separate the label
-- from the target.
abbrev pub written_word : List ℕ → List ℕ
written_word label = written_label label ++ codes ", "

-- `IsSpelled label s` holds if the record s stores no bytes or the written form of the label. If s stores no bytes,
-- `s.len` is 0. Otherwise, the first `s.len` bytes of the array in s are the written form of the label, followed by a
-- comma and a space. The array must have 32 bytes.
pub record IsSpelled (label : List ℕ) (s : Spelled) : Type 0 where
  pub room : length s.bytes ≡ 32
  pub short : s.len ≤ 32
  pub word : 0 < s.len → take s.len s.bytes ≡ written_word label

-- `AreSpelled labels spelled` holds if each item of the list `spelled` stores no bytes, or stores the written form of
-- the label with the same index in the list `labels`, followed by a comma and a space (`IsSpelled`).
abbrev pub AreSpelled : List (List ℕ) → List Spelled → Type 0
AreSpelled labels spelled =
    (k : ℕ) (d : Spelled) → k < length spelled → IsSpelled (get_or labels k []) (get_or spelled k d)
