-- This file defines functions that read the tokens of a line from left to right. A function that reads one token
-- returns this token and the bytes after it.
use Rattle.std.specs.Prelude.{◌≡◌, ℕ, ◌+◌, ◌-◌, ◌*◌, ◌^◌, Bool, ◌&&◌, ◌||◌, ◌==◌, nat_lt, nat_le, List, [], ◌∷◌, length}
use Rattle.std.specs.Prelude.{take, drop, Option, Some, None, if◌then◌else◌}
use Rattle.std.specs.Char.{is_ascii_digit}
use Rattle.std.specs.List.{list_all, prefix_len}
use Rattle.autfmt.specs.Grammar.{is_letter}

-- `x >>= f` applies the function f to the value of the option x. If x is `None`, the result is `None`.
infixl 10 ◌>>=◌
abbrev pub ◌>>=◌ : {A B : Type 0} → Option A → (A → Option B) → Option B
(Some x) >>= f = f x
None >>= f = None

-- `IsSeenAs view result read` holds if the result `result` of a Rust function agrees with the result `read` of the
-- corresponding function in this file. The two results agree if both are `None`, or if both are `Some` and the function
-- `view` converts the value in `result` into the value in `read`.
abbrev pub IsSeenAs : {X Y : Type 0} → (X → Y) → Option X → Option Y → Type 0
IsSeenAs view (Some x) read = read ≡ Some (view x)
IsSeenAs view None read = read ≡ None

-- `is_blank b` is true if the byte b is a blank: a space, a tab or a carriage return.
abbrev pub is_blank : ℕ → Bool
is_blank b = (b == 0x20) || (b == 0x09) || (b == 0x0D)

-- `after_blanks bytes` is the list `bytes` without its leading blanks.
unfoldable pub after_blanks : List ℕ → List ℕ
after_blanks [] = []
after_blanks (b ∷ bs) = if is_blank b then after_blanks bs else b ∷ bs

-- `past c bytes` are the bytes after the first byte of the list `bytes`, if this first byte is c. If `bytes` does not
-- begin with c, the result is `None`.
unfoldable pub past : ℕ → List ℕ → Option (List ℕ)
past c [] = None
past c (b ∷ bs) = if b == c then Some bs else None

-- `grows v` is true if a further digit may follow the digits of the number v, because v is not zero and has fewer than
-- ten digits.
abbrev pub grows : ℕ → Bool
grows v = nat_lt 0 v && nat_lt v (10 ^ 9)

-- `more_digits v bytes` reads the digits at the beginning of the list `bytes`, which are further digits of the number
-- v. The result consists of the whole number and the bytes after its last digit. The result is `None` if a digit
-- follows a leading zero, or if the number has more than ten digits.
unfoldable pub more_digits : ℕ → List ℕ → Option (ℕ × List ℕ)
more_digits v [] = Some (v, [])
more_digits v (b ∷ bs) =
    if is_ascii_digit b then (if grows v then more_digits (10 * v + (b - 48)) bs else None) else Some (v, b ∷ bs)

-- `number_at bytes` is the number at the beginning of the list `bytes`, together with the bytes after this number. The
-- result is `None` if the bytes do not begin with a number.
unfoldable pub number_at : List ℕ → Option (ℕ × List ℕ)
number_at [] = None
number_at (b ∷ bs) = if is_ascii_digit b then more_digits (b - 48) bs else None

-- `is_word b` is true if the byte b is a letter, an underscore or a digit.
abbrev pub is_word : ℕ → Bool
is_word b = is_letter b || is_ascii_digit b

-- `word_len bytes` is the number of letters, underscores and digits before the first other byte in the list `bytes`.
abbrev pub word_len : List ℕ → ℕ
word_len bytes = prefix_len is_word bytes

-- `plain_at bytes` is the plain label at the beginning of the list `bytes`, together with the bytes after this label. A
-- plain label is a label without quotation marks. A plain label consists of 1 to 8000 letters, underscores and digits,
-- and does not begin with a digit. The result is `None` if the bytes do not begin with a plain label.
unfoldable pub plain_at : List ℕ → Option (List ℕ × List ℕ)
plain_at [] = None
plain_at (b ∷ bs) =
    let n = word_len (b ∷ bs) in
    if is_letter b && nat_le n 8000 then Some (take n (b ∷ bs), drop n (b ∷ bs)) else None

-- `last_quote bytes` is the index of the last quotation mark in the list `bytes`, or `None` if there is no quotation
-- mark.
unfoldable pub last_quote : List ℕ → Option ℕ
last_quote [] = None
last_quote (b ∷ bs) =
    elim (last_quote bs) [ Some i ↦ Some (i + 1) | None ↦ if b == 34 then Some 0 else None ]

-- `is_label a` is true if the bytes a are a label: 1 to 8000 printable ASCII characters.
abbrev pub is_label : List ℕ → Bool
is_label a = nat_le 1 (length a) && nat_le (length a) 8000 && list_all (λ b. nat_le 0x20 b && nat_le b 0x7E) a

-- `quoted_at bytes` reads a label between quotation marks whose first quotation mark has already been read. The result
-- is the label before the last quotation mark in the list `bytes`, together with the bytes after this mark. The result
-- is `None` if there is no quotation mark, or if the bytes before the last quotation mark are not a valid label.
unfoldable pub quoted_at : List ℕ → Option (List ℕ × List ℕ)
quoted_at bytes = do
  i ← last_quote bytes
  if is_label (take i bytes) then Some (take i bytes, drop (i + 1) bytes) else None

-- `label_at bytes` is the label at the beginning of the list `bytes`, with or without quotation marks, together with
-- the bytes after this label. The result is `None` if the bytes do not begin with a label.
unfoldable pub label_at : List ℕ → Option (List ℕ × List ℕ)
label_at [] = None
label_at (b ∷ bs) = if b == 34 then quoted_at bs else plain_at (b ∷ bs)

-- `are_blanks rest` is true if all bytes in the list `rest` are blanks.
abbrev pub are_blanks : List ℕ → Bool
are_blanks rest = list_all is_blank rest

-- `past_des line` are the bytes after `des`, if the line begins with `des`. Otherwise, the result is `None`.
unfoldable pub past_des : List ℕ → Option (List ℕ)
past_des line = do
  rest ← past 100 line
  rest ← past 101 rest
  past 115 rest

-- `number_then c line` reads a number and then the byte c at the beginning of the line, with any number of blanks
-- before each of them. The result is the number and the bytes after c, or `None` if the line does not begin in this
-- way.
unfoldable pub number_then : ℕ → List ℕ → Option (ℕ × List ℕ)
number_then c line = do
  n ← number_at (after_blanks line)
  rest ← past c (after_blanks n.1)
  Some (n.0, rest)

-- `header_at line` are the three numbers of the header on the line: the first state, the number of transitions and the
-- number of states. If the line is not a header, the result is `None`.
unfoldable pub header_at : List ℕ → Option (ℕ × ℕ × ℕ)
header_at line = do
  rest ← past_des (after_blanks line)
  rest ← past 40 (after_blanks rest)
  f ← number_then 44 rest
  m ← number_then 44 f.1
  n ← number_then 41 m.1
  if are_blanks n.1 then Some (f.0, m.0, n.0) else None

-- `ending_at rest` reads the end of the line of a transition from the bytes `rest`, which begin with the label. The
-- result is the label and the target of the transition, or `None` if `rest` is not the end of such a line.
unfoldable pub ending_at : List ℕ → Option (List ℕ × ℕ)
ending_at rest = do
  a ← label_at rest
  rest ← past 44 (after_blanks a.1)
  t ← number_then 41 rest
  if are_blanks t.1 then Some (a.0, t.0) else None

-- `transition_at line` are the source, the label and the target of the transition on the line. If the line is not a
-- transition, the result is `None`.
unfoldable pub transition_at : List ℕ → Option (ℕ × List ℕ × ℕ)
transition_at line = do
  rest ← past 40 (after_blanks line)
  s ← number_then 44 rest
  e ← ending_at (after_blanks s.1)
  Some (s.0, e.0, e.1)

-- `hide_line_at line` is the label on a line of a hide list (the labels to hide). If the line is not a correct line of
-- a hide list, the result is `None`.
unfoldable pub hide_line_at : List ℕ → Option (List ℕ)
hide_line_at line = do
  a ← label_at (after_blanks line)
  if are_blanks a.1 then Some a.0 else None
