-- The lemmas in this file are about reading the tokens of a line. If a number is read from bytes, then these bytes are
-- the decimal notation of the number. Each number in decimal notation can be read. The first lemmas are about blanks in
-- front of a token, about the bytes that may follow a token, and about bytes that do not occur in a line.
use Rattle.std.proofs.Common.{◌≡◌, ◌≢◌, ◌⊎◌, ℕ, Bool, true, false, not, List, [], ◌∷◌, ◌++◌, All, refl, sym, ap, ◌∙◌}
use Rattle.std.proofs.Common.{append_assoc, arith, ◌+◌, ◌-◌, ◌*◌, ◌/◌, ◌%◌, ◌^◌, ◌<◌, ◌≤◌, Option, Some, None}
use Rattle.std.proofs.Common.{rules, ◌==◌, decimal, eq-eqb}
use Rattle.std.specs.{List.AllByRecursion, List.list_all, Char.is_ascii_digit}
use Rattle.std.proofs.lemmas.{Grind.common_steps, Bool.cond_both, Bool.Decides.nat_tests}
use Rattle.std.proofs.lemmas.{Fmt.decimal_digit, Fmt.decimal_step, Fmt.decimal_by_steps}
use Rattle.std.proofs.lemmas.List.Elements.{All-nil, All-cons, All-head, All-tail, All-append, All-weaker}
use Rattle.std.proofs.lemmas.List.Sums.{AllPass-from_list_all, list_all-from_AllPass}
use Rattle.autfmt.specs.Grammar.{Blanks, Spaced, IsDecimal}
use Rattle.autfmt.specs.Reading.{is_blank, are_blanks, after_blanks, more_digits, number_at, ◌>>=◌}

-- `IsBlank b` holds if the byte b is a space, a tab or a carriage return.
abbrev pub IsBlank : ℕ → Type 0
IsBlank b = (b ≡ 0x20) ⊎ (b ≡ 0x09) ⊎ (b ≡ 0x0D)

pub IsBlank-from_test : (b : ℕ) → is_blank b ≡ true → IsBlank b
IsBlank-from_test b e = grind arith

pub test-IsBlank : (b : ℕ) → IsBlank b → is_blank b ≡ true
test-IsBlank b blank = grind arith

pub after_blanks-skips : (before rest : List ℕ) → Blanks before → after_blanks (before ++ rest) ≡ after_blanks rest
unfolding after_blanks
after_blanks-skips [] rest blanks = refl
after_blanks-skips (b ∷ before) rest blanks =
    rw (test-IsBlank b (All-head IsBlank b before blanks)) (after_blanks-skips before rest
    (All-tail IsBlank b before blanks))

pub after_blanks-cuts : (line : List ℕ) → (before : List ℕ) × Blanks before × (line ≡ before ++ after_blanks line)
unfolding after_blanks
after_blanks-cuts [] = ([], All-nil IsBlank, refl)
after_blanks-cuts (b ∷ bs) =
    cond_both (is_blank b) (after_blanks bs) (b ∷ bs) (λ r. (before : List ℕ) × Blanks before × (b ∷ bs ≡ before ++ r))
    (λ e. let h = after_blanks-cuts bs in (
      b ∷ h.0,
      All-cons IsBlank b h.0 (IsBlank-from_test b e) h.1,
      ap (λ (t : List ℕ). b ∷ t) h.2,
    ))
    (λ _. ([], All-nil IsBlank, refl))

-- ---- Tokens after blanks

-- `IsToken bytes` holds if the list `bytes` is not empty and does not begin with a blank.
abbrev pub IsToken : List ℕ → Type 0
IsToken [] = ⊥
IsToken (b ∷ bs) = is_blank b ≡ false

at_token-itself : (token rest : List ℕ) → IsToken token → after_blanks (token ++ rest) ≡ token ++ rest
unfolding after_blanks
at_token-itself token rest h = grind arith

pub at_token : (token : List ℕ) (tokens : List (List ℕ)) (line : List ℕ) → IsToken token →
    (s : Spaced (token ∷ tokens) line) → after_blanks line ≡ token ++ s.1
at_token token tokens line h s = grind (arith, append_assoc, after_blanks-skips, at_token-itself)

pub Spaced-from : (token : List ℕ) (tokens : List (List ℕ)) (line rest : List ℕ) → after_blanks line ≡ token ++ rest →
    Spaced tokens rest → Spaced (token ∷ tokens) line
Spaced-from token tokens line rest e s =
    let h = after_blanks-cuts line in
    (h.0, rest, h.1, h.2 ∙ ap (λ (t : List ℕ). h.0 ++ t) e ∙ sym (append_assoc h.0 token rest), s)

-- ---- Bytes after a token

-- `Stops p bytes` holds if the list `bytes` is empty, or if p returns false for its first byte. The function p tests
-- whether a byte belongs to a token. So if `bytes` follow a token, this token ends where `bytes` begin.
abbrev pub Stops : (ℕ → Bool) → List ℕ → Type 0
Stops p [] = Unit {0}
Stops p (b ∷ bs) = p b ≡ false

-- `FailsBlanks p` holds if p returns false for every blank.
abbrev pub FailsBlanks : (ℕ → Bool) → Type 0
FailsBlanks p = (b : ℕ) → IsBlank b → p b ≡ false

pub Stops-blanks : (p : ℕ → Bool) (bs : List ℕ) → FailsBlanks p → Blanks bs → Stops p bs
Stops-blanks p bs fails blanks = grind arith

Stops-before_mark : (p : ℕ → Bool) (before : List ℕ) (c : ℕ) (rest : List ℕ) → FailsBlanks p → p c ≡ false →
    Blanks before → Stops p (before ++ c ∷ rest)
Stops-before_mark p [] c rest fails e blanks = e
Stops-before_mark p (b ∷ bs) c rest fails e blanks = fails b (All-head IsBlank b bs blanks)

pub Stops-mark : (p : ℕ → Bool) (c : ℕ) (tokens : List (List ℕ)) (line : List ℕ) → FailsBlanks p → p c ≡ false →
    Spaced ((c ∷ []) ∷ tokens) line → Stops p line
Stops-mark p c tokens line fails e s = grind (arith, common_steps, append_assoc, Stops-before_mark)

-- If all bytes are blanks, the function `are_blanks` returns true.
pub are_blanks-from : (bs : List ℕ) → Blanks bs → are_blanks bs ≡ true
are_blanks-from bs blanks = grind (arith, list_all-from_AllPass, All-weaker, test-IsBlank)

pub Blanks-from_test : (bs : List ℕ) → are_blanks bs ≡ true → Blanks bs
Blanks-from_test bs e = grind (arith, All-weaker, IsBlank-from_test, AllPass-from_list_all)

-- ---- Bytes that do not occur in a line

-- `Without c bytes` holds if the byte c does not occur in the list `bytes`. For the line feed, which is the byte 10,
-- this is the definition of `IsOneLine`.
abbrev pub Without : ℕ → List ℕ → Type 0
Without c bytes = All (λ b. b ≢ c) bytes

-- If no byte of a list passes the test for the byte c, then c does not occur in the list. The lemma is used for the
-- tokens that the grammar fixes, such as `des` and the comma.
pub Without-literal : (c : ℕ) (bytes : List ℕ) → list_all (λ b. not (b == c)) bytes ≡ true → Without c bytes
Without-literal c bytes e =
    All-weaker (λ b. not (b == c) ≡ true) (λ b. b ≢ c) (λ b other same. let t = eq-eqb b c same in cc) bytes
    (AllPass-from_list_all (λ b. not (b == c)) bytes e)

pub Without-blanks : (c : ℕ) (bs : List ℕ) → is_blank c ≡ false → Blanks bs → Without c bs
Without-blanks c bs other blanks =
    All-weaker IsBlank (λ b. b ≢ c) (λ b blank same. let t = test-IsBlank b blank in cc) bs blanks

-- If the byte c is no blank and occurs in no token of a line, then c does not occur in the line.
pub Without-spaced : (c : ℕ) (tokens : List (List ℕ)) (line : List ℕ) → is_blank c ≡ false →
    AllByRecursion (Without c) tokens → Spaced tokens line → Without c line
Without-spaced c [] line other none s = Without-blanks c line other s
Without-spaced c (token ∷ tokens) line other none s =
    let front = All-append (λ b. b ≢ c) s.0 token (Without-blanks c s.0 other s.2) none.0 in
    rw s.3 (All-append (λ b. b ≢ c) (s.0 ++ token) s.1 front (Without-spaced c tokens s.1 other none.1 s.4))

-- ---- Reading a number: the bytes that are read are the decimal digits of the number that is returned

pub digit-range : (b : ℕ) → is_ascii_digit b ≡ true → (48 ≤ b) × (b < 58)
digit-range b e = (grind (arith, nat_tests), grind (arith, nat_tests))

pub digit-test : (d : ℕ) → d < 10 → is_ascii_digit (48 + d) ≡ true
digit-test d h = grind (arith, nat_tests)

pub digit-not_blank : (d : ℕ) → is_blank (48 + d) ≡ false
digit-not_blank d = grind (arith, nat_tests)

pub blanks_no_digits : FailsBlanks is_ascii_digit
blanks_no_digits b blank = grind arith

-- ---- Only decimal numbers can be read

-- If the digit d is appended to the decimal digits of a number v that is not 0 and is less than 10 ^ 18, then the
-- result is the decimal digits of 10 * v + d.
pub decimal-more : (v d : ℕ) → 0 < v → v < 10 ^ 18 → d < 10 → decimal (10 * v + d) ≡ decimal v ++ ((48 + d) ∷ [])
decimal-more v d positive small digit = grind (arith, decimal_step)

-- `Took v bytes n rest` holds if a number was read from the list `bytes` after the digits of v. The decimal digits of
-- the number n are the digits of v, followed by the digits that were read from `bytes`, and n is less than 10 ^ 10. The
-- list `rest` contains the bytes after these digits.
record Took (v : ℕ) (bytes : List ℕ) (n : ℕ) (rest : List ℕ) : Type 0 where
  digits : List ℕ
  parts : bytes ≡ digits ++ rest
  value : decimal n ≡ decimal v ++ digits
  small : n < 10 ^ 10

more_digits-done : (v : ℕ) (bytes : List ℕ) (n : ℕ) (rest : List ℕ) → v < 10 ^ 10 →
    ◌≡◌ {A = Option (ℕ × List ℕ)} (Some (v, bytes)) (Some (n, rest)) → Took v bytes n rest
more_digits-done v bytes n rest small e = search rules

more_digits-one : (v d : ℕ) (b : ℕ) (bytes : List ℕ) (n : ℕ) (rest : List ℕ) → b ≡ 48 + d →
    decimal (10 * v + d) ≡ decimal v ++ ((48 + d) ∷ []) → Took (10 * v + d) bytes n rest → Took v (b ∷ bytes) n rest
more_digits-one v d b bytes n rest is step t = grind (arith, t.digits, t.parts, append_assoc, t.small)

more_digits-takes : (v : ℕ) (bytes : List ℕ) (n : ℕ) (rest : List ℕ) → v < 10 ^ 10 →
    more_digits v bytes ≡ Some (n, rest) → Took v bytes n rest
unfolding more_digits
more_digits-takes v [] n rest small e = more_digits-done v [] n rest small e
more_digits-takes v (b ∷ bytes) n rest small e =
    let d = b - 48 in
    let later = more_digits-takes (10 * v + d) bytes n rest in
    let one = more_digits-one v d b bytes n rest in
    let done = more_digits-done v (b ∷ bytes) n rest small in
    let step = decimal-more v d in
    grind (arith, nat_tests, later, one, done, step, digit-range b)

pub number_at-takes : (bytes : List ℕ) (n : ℕ) (rest : List ℕ) → number_at bytes ≡ Some (n, rest) →
    (digits : List ℕ) × IsDecimal digits n × (bytes ≡ digits ++ rest)
unfolding number_at
number_at-takes [] n rest e = absurd cc
number_at-takes (b ∷ bytes) n rest e =
    let took = more_digits-takes (b - 48) bytes n rest in
    let first = decimal_digit (b - 48) in grind (arith, nat_tests, took, first, digit-range b)

-- ---- Every decimal number can be read

-- `Leads n digits` holds if n is at least 10 ^ 10, or if the bytes `digits` are read as the number n. This means that
-- reading a number from `digits` and any further bytes (`number_at`) has the same result as continuing the number n
-- with the further bytes (`more_digits`).
abbrev Leads : ℕ → List ℕ → Type 0
Leads n digits = n < 10 ^ 10 → (tail : List ℕ) → number_at (digits ++ tail) ≡ more_digits n tail

Leads-one : (n : ℕ) → n < 10 → Leads n ((48 + n) ∷ [])
unfolding number_at
Leads-one n h small tail = let value : 48 + n - 48 ≡ n = omega arith in rw (digit-test n h, value) refl

Leads-more : (n : ℕ) (digits : List ℕ) → 10 ≤ n → Leads (n / 10) digits → Leads n (digits ++ ((48 + n % 10) ∷ []))
unfolding more_digits
Leads-more n digits h before small tail = grind (arith, nat_tests, append_assoc, digit-test)

more_digits-stops : (n : ℕ) (rest : List ℕ) → Stops is_ascii_digit rest → more_digits n rest ≡ Some (n, rest)
unfolding more_digits
more_digits-stops n rest h = grind arith

pub number_at-again : (digits : List ℕ) (n : ℕ) (rest : List ℕ) → IsDecimal digits n → Stops is_ascii_digit rest →
    number_at (digits ++ rest) ≡ Some (n, rest)
number_at-again digits n rest number stops =
    let leads : Leads n (decimal n) = decimal_by_steps Leads Leads-one Leads-more n (omega (arith, number.0)) in
    ap (λ (x : List ℕ). number_at (x ++ rest)) number.1 ∙ leads number.0 rest ∙ more_digits-stops n rest stops

-- ---- The bytes of a number

IsToken-append : (token tail : List ℕ) → IsToken token → IsToken (token ++ tail)
IsToken-append token tail h = grind arith

pub IsToken-number : (digits : List ℕ) (n : ℕ) → IsDecimal digits n → IsToken digits
IsToken-number digits n number =
    let h : IsToken (decimal n) = decimal_by_steps (λ _ ds. IsToken ds) (λ k _. digit-not_blank k)
    (λ k ds _ before. IsToken-append ds ((48 + k % 10) ∷ []) before) n (omega (arith, number.0)) in
    rw number.1 h

-- A byte less than 48 does not occur in the decimal digits of a number, because the digit 0 is the byte 48.
pub Without-number : (c : ℕ) (digits : List ℕ) (n : ℕ) → c < 48 → IsDecimal digits n → Without c digits
Without-number c digits n low number =
    let one : (d : ℕ) → Without c ((48 + d) ∷ []) = λ d.
    All-cons (λ b. b ≢ c) (48 + d) [] (λ e. omega arith) (All-nil (λ b. b ≢ c)) in
    rw number.1 (decimal_by_steps (λ _ ds. Without c ds) (λ d _. one d)
    (λ k ds _ before. All-append (λ b. b ≢ c) ds _ before (one (k % 10))) n (omega (arith, number.0)))

-- ---- Applying a function to the value of an option

-- Suppose that the function f is applied to the value of the option r, and that the result is `Some y`. Then r has a
-- value, and f returns `Some y` for this value.
pub bind_some : {A B : Type 0} (r : Option A) (f : A → Option B) (y : B) → (r >>= f) ≡ Some y →
    (x : A) × (r ≡ Some x) × (f x ≡ Some y)
bind_some (Some x) f y e = (x, refl, e)
bind_some None f y e = absurd cc
