-- This file defines the grammar of a line without its line feed. A line is a header, a transition, or a line of a hide
-- list (the labels to hide). The `aut` manual page describes the format, and this project restricts it further.
use Rattle.std.specs.Prelude.{◌≡◌, ◌⊎◌, ℕ, ◌<◌, ◌^◌, Bool, false, ◌&&◌, ◌||◌, ◌==◌, nat_le, IsTrue, List, [], ◌∷◌, ◌++◌}
use Rattle.std.specs.Prelude.{length, codes, decimal}
use Rattle.std.specs.Char.{is_ascii_alphabetic, is_ascii_digit}
use Rattle.std.specs.List.{All, list_all}
use Rattle.theory.specs.System.{IsLabel}

-- `Blanks bs` holds if each byte of the list bs is a blank. The list may be empty. A blank is a space, a tab or a
-- carriage return.
abbrev pub Blanks : List ℕ → Type 0
Blanks bs = All (λ b. (b ≡ 0x20) ⊎ (b ≡ 0x09) ⊎ (b ≡ 0x0D)) bs

-- `Spaced tokens line` holds if the line consists of the tokens in the list `tokens`, in their order, with any number
-- of blanks before, between and after these tokens.
abbrev pub Spaced : List (List ℕ) → List ℕ → Type 0
Spaced [] line = Blanks line
Spaced (token ∷ tokens) line =
    (before rest : List ℕ) × Blanks before × (line ≡ before ++ token ++ rest) × Spaced tokens rest

-- `IsDecimal digits v` holds if `digits` are the decimal digits of the number v without leading zeros, and there are at
-- most ten digits.
abbrev pub IsDecimal : List ℕ → ℕ → Type 0
IsDecimal digits v = (v < 10 ^ 10) × (digits ≡ decimal v)

-- `is_letter b` is true if the byte b is a letter from A to Z or a to z, or an underscore.
abbrev pub is_letter : ℕ → Bool
is_letter b = is_ascii_alphabetic b || (b == 95)

-- `is_plain a` is true if the label a may be written without quotation marks. This is the case if a consists of 1 to
-- 8000 letters and digits, and begins with a letter. The underscore counts as a letter (`is_letter`).
abbrev pub is_plain : List ℕ → Bool
is_plain [] = false
is_plain (b ∷ bs) = is_letter b && list_all (λ c. is_letter c || is_ascii_digit c) bs && nat_le (length (b ∷ bs)) 8000

-- `quoted a` returns the bytes of the label a, with a quotation mark before them and a quotation mark after them.
abbrev pub quoted : List ℕ → List ℕ
quoted a = codes "\"" ++ a ++ codes "\""

-- `Label spelling a` holds if the bytes `spelling` are a written form of the label a. A label has at most two written
-- forms. The first form is the label with a quotation mark before it and a quotation mark after it. The second form is
-- the label itself. The second form is allowed only if `is_plain` is true for the label.
abbrev pub Label : List ℕ → List ℕ → Type 0
Label spelling a = (IsTrue (is_plain a) × (spelling ≡ a)) ⊎ (IsLabel a × (spelling ≡ quoted a))

-- `Header line f m n` holds if the line is `des (f, m, n)` with any number of blanks around its tokens, where f is the
-- first state, m is the number of transitions and n is the number of states.
abbrev pub Header : List ℕ → ℕ → ℕ → ℕ → Type 0
Header line f m n =
    (first transitions states : List ℕ) × IsDecimal first f × IsDecimal transitions m × IsDecimal states n
    × Spaced (codes "des" ∷ codes "(" ∷ first ∷ codes "," ∷ transitions ∷ codes "," ∷ states ∷ codes ")" ∷ []) line

-- `TransitionLine line s a t` holds if the line is `(s, a, t)` with any number of blanks around its tokens, where s is
-- the source, a is the label and t is the target.
abbrev pub TransitionLine : List ℕ → ℕ → List ℕ → ℕ → Type 0
TransitionLine line s a t =
    (source label target : List ℕ) × IsDecimal source s × Label label a × IsDecimal target t
    × Spaced (codes "(" ∷ source ∷ codes "," ∷ label ∷ codes "," ∷ target ∷ codes ")" ∷ []) line

-- `HideLine line a` holds if the line consists of a written form of the label a, with any number of blanks before it
-- and after it.
abbrev pub HideLine : List ℕ → List ℕ → Type 0
HideLine line a = (label : List ℕ) × Label label a × Spaced (label ∷ []) line
