-- This file states when a list of bytes begins with a transition, or with a part of a transition: a number, a label, a
-- comma, or the end of the line.
use Rattle.std.specs.Prelude.{◌≡◌, ◌⊎◌, ℕ, ◌<◌, ◌≤◌, ◌^◌, List, ◌∷◌, ◌++◌, length, take, slice_index, codes, decimal}
use Rattle.std.specs.Char.{is_ascii_digit}
use Rattle.std.specs.List.{prefix_len}
use Rattle.std.specs.Str.Parse.{digits_value}
use Rattle.autfmt.specs.Grammar.{Label, TransitionLine}
use Rattle.autfmt.specs.Texts.{IsShort}

-- `AreDigitsInFront bytes n v` holds if all three of the following conditions hold. First, the list `bytes` contains at
-- least eight items. Second, the list begins with exactly n digits, where n is between 1 and 7. Third, these digits
-- denote the number v.
pub record AreDigitsInFront (bytes : List ℕ) (n v : ℕ) : Type 0 where
  pub room : 8 ≤ length bytes
  pub some : 0 < n
  pub few : n < 8
  pub count : n ≡ prefix_len is_ascii_digit (take 8 bytes)
  pub value : v ≡ digits_value 10 (take n (take 8 bytes))

-- `BeginsWithNumber bytes v rest` holds if the list `bytes` consists of the decimal digits of the number v and the
-- bytes `rest` after them. The number v has at most ten digits.
abbrev pub BeginsWithNumber : List ℕ → ℕ → List ℕ → Type 0
BeginsWithNumber bytes v rest = (v < 10 ^ 10) × (bytes ≡ decimal v ++ rest)

-- `BeginsWithLabel bytes a rest` holds if the list `bytes` consists of a written form of the label a and the bytes
-- `rest` after it. A written form is the label with or without quotation marks.
abbrev pub BeginsWithLabel : List ℕ → List ℕ → List ℕ → Type 0
BeginsWithLabel bytes a rest = (spelling : List ℕ) × Label spelling a × (bytes ≡ spelling ++ rest)

-- `FollowsComma bytes rest` holds if the list `bytes` begins with a comma, and `rest` are the bytes after this comma.
-- If a space follows the comma, `rest` may also be the bytes after this space.
abbrev pub FollowsComma : List ℕ → List ℕ → Type 0
FollowsComma bytes rest = (bytes ≡ codes "," ++ rest) ⊎ (bytes ≡ codes ", " ++ rest)

-- `FollowsEnd bytes rest` holds if the list `bytes` begins with a closing parenthesis and the end of a line, and `rest`
-- are the bytes after the end of this line. The end of a line is a line feed, or a carriage return and a line feed.
abbrev pub FollowsEnd : List ℕ → List ℕ → Type 0
FollowsEnd bytes rest = (bytes ≡ codes ")\n" ++ rest) ⊎ (bytes ≡ codes ")\r\n" ++ rest)

-- `HasMark bytes i` holds if the item at the index i of the list `bytes` is a quotation mark.
abbrev pub HasMark : List ℕ → ℕ → Type 0
HasMark bytes i = (i < length bytes) × (slice_index bytes i ≡ 34)

-- `BeginsWithTransition bytes s a t rest` holds if the list `bytes` consists of a line, a line feed and the bytes
-- `rest`. The line must denote the transition from the state s to the state t with the label a, and must have at most
-- 8192 bytes.
pub record BeginsWithTransition (bytes : List ℕ) (s : ℕ) (a : List ℕ) (t : ℕ) (rest : List ℕ) : Type 0 where
  pub line : List ℕ
  pub whole : bytes ≡ line ++ 10 ∷ rest
  pub spelled : TransitionLine line s a t
  pub short : IsShort line
