-- The lemmas in this file are about reading a label. If a label is read from bytes, then these bytes are a written form
-- of the label according to the grammar. Each written form that the grammar allows can be read.
use Rattle.std.proofs.Common.{◌≡◌, ◌≢◌, ℕ, true, List, [], ◌∷◌, ◌++◌, All, refl, sym, ap, ◌∙◌, append_assoc, arith, ◌+◌}
use Rattle.std.proofs.Common.{◌<◌, ◌≤◌, cond, Option, Some, None, rules, suc, length, take, drop, inl, inr, zero}
use Rattle.std.proofs.Common.{get_or, add-one}
use Rattle.std.specs.{Prelude.◌==◌, Prelude.nat_le, Prelude.◌&&◌, List.list_all, Char.is_ascii_digit}
use Rattle.std.proofs.lemmas.{Bool.Decides.nat_tests, Bool.Decides.Decides-by_and, Option.cond_some}
use Rattle.std.proofs.lemmas.Bool.{cond_both, eq-eqb, and_parts, and_from, or_left, leb-true, le-leb, ne_eqb, eqb-true}
use Rattle.std.proofs.lemmas.List.Elements.{All-cons, All-weaker, All-push}
use Rattle.std.proofs.lemmas.List.Sums.{AllPass-from_list_all, list_all-from_AllPass, prefix_len_passes}
use Rattle.std.proofs.lemmas.List.{length-take, get_or-take, take_at, drop_at, take-append-drop, length_push}
use Rattle.theory.specs.System.{IsLabel}
use Rattle.autfmt.specs.Grammar.{is_letter, is_plain, quoted, Label}
use Rattle.autfmt.specs.Reading.{is_word, word_len, plain_at, is_label, last_quote, quoted_at, label_at}
use Rattle.autfmt.proofs.Tokens.{FailsBlanks, IsToken, Stops, Without, bind_some}

-- ---- Testing whether bytes are a label

is_printable-decides : (a : List ℕ) → (list_all (λ b. nat_le 0x20 b && nat_le b 0x7E) a ≡ true →
    All (λ b. (0x20 ≤ b) × (b ≤ 0x7E)) a) × (All (λ b. (0x20 ≤ b) × (b ≤ 0x7E)) a →
    list_all (λ b. nat_le 0x20 b && nat_le b 0x7E) a ≡ true)
is_printable-decides a =
    Decides-by_and (λ b. nat_le 0x20 b && nat_le b 0x7E) (λ b. (0x20 ≤ b) × (b ≤ 0x7E))
    (list_all (λ b. nat_le 0x20 b && nat_le b 0x7E))
    (λ b. (λ e. grind (arith, nat_tests), λ h. grind (arith, nat_tests)))
    refl (λ _ _. refl) a

pub IsLabel-from_test : (a : List ℕ) → is_label a ≡ true → IsLabel a
IsLabel-from_test a e = let h = is_printable-decides a in grind (arith, nat_tests, h)

pub test-IsLabel : (a : List ℕ) → IsLabel a → is_label a ≡ true
test-IsLabel a h = search (rules, is_printable-decides, h.printable, h.not_empty, h.short, nat_tests)

-- ---- Plain labels

word-range : (b : ℕ) → is_word b ≡ true → (0x20 ≤ b) × (b ≤ 0x7E)
word-range b e = (grind (arith, nat_tests), grind (arith, nat_tests))

pub letter-word : (b : ℕ) → is_letter b ≡ true → is_word b ≡ true
letter-word b e = or_left (is_letter b) (is_ascii_digit b) e

pub blanks_no_words : FailsBlanks is_word
blanks_no_words b (inl e) = rw e refl
blanks_no_words b (inr (inl e)) = rw e refl
blanks_no_words b (inr (inr e)) = rw e refl

words_printable : (bs : List ℕ) → list_all is_word bs ≡ true → All (λ b. (0x20 ≤ b) × (b ≤ 0x7E)) bs
words_printable bs e = search (rules, All-weaker, word-range, AllPass-from_list_all)

-- `Plain b bs` holds if the byte b, followed by the bytes bs, is a label that may be written without quotation marks.
-- All three of the following conditions must hold. First, b is a letter or an underscore. Second, all bytes in bs are
-- letters, underscores or digits. Third, the label has at most 8000 bytes.
pub record Plain (b : ℕ) (bs : List ℕ) : Type 0 where
  pub letter : is_letter b ≡ true
  pub words : list_all is_word bs ≡ true
  pub short : length (b ∷ bs) ≤ 8000

pub Plain-from : (b : ℕ) (bs : List ℕ) → is_plain (b ∷ bs) ≡ true → Plain b bs
Plain-from b bs e = search rules

plain-test : (b : ℕ) (bs : List ℕ) → Plain b bs → is_plain (b ∷ bs) ≡ true
plain-test b bs p = let l = p.letter in let w = p.words in let s = p.short in grind (arith, nat_tests)

pub IsLabel-plain : (a : List ℕ) → is_plain a ≡ true → IsLabel a
IsLabel-plain [] e = absurd cc
IsLabel-plain (b ∷ bs) e = search (rules, Plain-from, All-cons, word-range, letter-word, words_printable)

words_in_front : (bs : List ℕ) → list_all is_word (take (word_len bs) bs) ≡ true
words_in_front bs = search (rules, list_all-from_AllPass, length-take, get_or-take, prefix_len_passes)

word_len-words : (bs rest : List ℕ) → list_all is_word bs ≡ true → Stops is_word rest →
    word_len (bs ++ rest) ≡ length bs
word_len-words [] [] words stops = refl
word_len-words [] (c ∷ rest) words stops = rw stops refl
word_len-words (b ∷ bs) rest words stops =
    let h = and_parts (is_word b) (list_all is_word bs) words in
    rw (h.0, word_len-words bs rest h.1 stops) (omega arith)

pub plain_at-takes : (bytes a rest : List ℕ) → plain_at bytes ≡ Some (a, rest) →
    (is_plain a ≡ true) × (bytes ≡ a ++ rest)
unfolding plain_at
plain_at-takes [] a rest e = absurd cc
plain_at-takes (b ∷ bs) a rest e =
    let n = word_len (b ∷ bs) in
    let h = cond_some (is_letter b && nat_le n 8000) (take n (b ∷ bs), drop n (b ∷ bs)) (a, rest) e in
    let k = and_parts (is_letter b) (nat_le n 8000) h.0 in
    let front : take n (b ∷ bs) ≡ a = ap (λ (p : List ℕ × List ℕ). p.0) h.1 in
    let behind : drop n (b ∷ bs) ≡ rest = ap (λ (p : List ℕ × List ℕ). p.1) h.1 in
    let one : 1 + word_len bs ≡ suc (word_len bs) = omega arith in
    let len : n ≡ suc (word_len bs) = rw (letter-word b k.0) one in
    let short : length (b ∷ take (word_len bs) bs) ≤ 8000 =
    omega (arith, leb-true n 8000 k.1, length-take (word_len bs) bs) in
    let plain = plain-test b _ (record { letter = k.0; words = words_in_front bs; short = short }) in
    rw (← front, ← behind) (rw len plain, sym (take-append-drop n (b ∷ bs)))

pub plain_at-again : (a rest : List ℕ) → is_plain a ≡ true → Stops is_word rest → plain_at (a ++ rest) ≡ Some (a, rest)
unfolding plain_at
plain_at-again [] rest e stops = absurd cc
plain_at-again (b ∷ bs) rest e stops =
    let p = Plain-from b bs e in
    let words = and_from (is_word b) (list_all is_word bs) (letter-word b p.letter) p.words in
    let len : word_len (b ∷ bs ++ rest) ≡ length (b ∷ bs) = word_len-words (b ∷ bs) rest words stops in
    let test =
    and_from (is_letter b) (nat_le (length (b ∷ bs)) 8000) p.letter (le-leb (length (b ∷ bs)) 8000 p.short) in
    rw (len, test, take_at (b ∷ bs) rest (length (b ∷ bs)) refl, drop_at (b ∷ bs) rest (length (b ∷ bs)) refl) refl

-- ---- Reading a quoted label, which ends at the last quotation mark of its line

-- ---- The last quotation mark

-- `before b r` is the result of the function `last_quote` for a list that begins with the byte b. The argument r is the
-- result of `last_quote` for the other bytes of this list.
abbrev before : ℕ → Option ℕ → Option ℕ
before b (Some i) = Some (i + 1)
before b None = cond (b == 34) (Some 0) None

last_quote-step : (b : ℕ) (bs : List ℕ) (o : Option ℕ) → last_quote bs ≡ o → last_quote (b ∷ bs) ≡ before b o
unfolding last_quote
last_quote-step b bs o e = grind arith

pub last_quote-none_at : (bs : List ℕ) → ((k : ℕ) → k < length bs → get_or bs k 0 ≢ 34) → last_quote bs ≡ None
unfolding last_quote
last_quote-none_at [] h = refl
last_quote-none_at (b ∷ bs) h =
    last_quote-step b bs None (last_quote-none_at bs (λ k lt. h (suc k) (omega arith))) ∙ rw (ne_eqb b 34 (h 0
    (omega arith))) refl

pub last_quote-at : (a rest : List ℕ) → Without 34 rest → last_quote (a ++ 34 ∷ rest) ≡ Some (length a)
last_quote-at [] rest h = last_quote-step 34 rest None (last_quote-none_at rest (λ k below. h k 0 below))
last_quote-at (b ∷ a) rest h = last_quote-step b _ (Some (length a)) (last_quote-at a rest h) ∙ rw add-one refl

-- `HasQuoteAt bytes i` holds if there is a quotation mark at the index i of the list `bytes`.
abbrev HasQuoteAt : List ℕ → ℕ → Type 0
HasQuoteAt bytes i = bytes ≡ take i bytes ++ 34 ∷ drop (i + 1) bytes

last_quote-cuts : (bs : List ℕ) (i : ℕ) → last_quote bs ≡ Some i → HasQuoteAt bs i
unfolding last_quote
last_quote-cuts [] i e = absurd cc
last_quote-cuts (b ∷ bs) i e =
    by (last_quote bs) (last_quote-cuts bs) (sym (last_quote-step b bs (last_quote bs) refl) ∙ e)
  where
    by : (o : Option ℕ) → ((j : ℕ) → o ≡ Some j → HasQuoteAt bs j) → before b o ≡ Some i → HasQuoteAt (b ∷ bs) i
    by o below f = grind arith

-- ---- A search from the end of the line finds the last quotation mark

pub last_quote-is : (bs : List ℕ) (i : ℕ) → i < length bs → get_or bs i 0 ≡ 34 →
    ((k : ℕ) → i < k → k < length bs → get_or bs k 0 ≢ 34) → last_quote bs ≡ Some i
last_quote-is [] i lt here after = absurd (omega arith)
last_quote-is (b ∷ bs) zero lt here after =
    let none = last_quote-none_at bs (λ k lt. after (suc k) (omega arith) (omega arith)) in
    last_quote-step b bs None none ∙ rw (eq-eqb b 34 here) refl
last_quote-is (b ∷ bs) (suc i) lt here after =
    let more = last_quote-is bs i (omega arith) here (λ k l m. after (suc k) (omega arith) (omega arith)) in
    last_quote-step b bs (Some i) more ∙ ap (λ (n : ℕ). Some n) (add-one i)

-- ---- Reading the label

pub quoted_at-takes : (bytes a rest : List ℕ) → quoted_at bytes ≡ Some (a, rest) → IsLabel a × (bytes ≡ a ++ 34 ∷ rest)
unfolding quoted_at
quoted_at-takes bytes a rest e = grind (arith, bind_some, cond_some, IsLabel-from_test, last_quote-cuts)

pub quoted_at-again : (a rest : List ℕ) → IsLabel a → Without 34 rest → quoted_at (a ++ 34 ∷ rest) ≡ Some (a, rest)
unfolding quoted_at
quoted_at-again a rest h none =
    let behind : drop (length a + 1) (a ++ 34 ∷ rest) ≡ rest = ap (λ (t : List ℕ). drop (length a + 1) t)
    (sym (append_assoc a (34 ∷ []) rest)) ∙ drop_at (a ++ 34 ∷ []) rest (length a + 1) (length_push a 34) in
    rw (last_quote-at a rest none, take_at a (34 ∷ rest) (length a) refl, test-IsLabel a h, behind) refl

pub quoted_at-none : (bytes : List ℕ) → ((k : ℕ) → k < length bytes → get_or bytes k 0 ≢ 34) → quoted_at bytes ≡ None
unfolding quoted_at
quoted_at-none bytes none = rw (last_quote-none_at bytes none) refl

-- Suppose that the last quotation mark of a list of bytes is at the index i. Then the function `quoted_at` tests
-- whether the bytes before this mark are a label.
pub quoted_at-found : (bytes : List ℕ) (i : ℕ) → i < length bytes → get_or bytes i 0 ≡ 34
    → ((k : ℕ) → i < k → k < length bytes → get_or bytes k 0 ≢ 34)
    → quoted_at bytes ≡ cond {A = Option (List ℕ × List ℕ)} (is_label (take i bytes))
    (Some (take i bytes, drop (i + 1) bytes)) None
unfolding quoted_at
quoted_at-found bytes i lt here after = rw (last_quote-is bytes i lt here after) refl

-- ---- Reading a label

pub quoted-append : (a rest : List ℕ) → quoted a ++ rest ≡ 34 ∷ (a ++ 34 ∷ rest)
quoted-append a rest = ap (λ (t : List ℕ). 34 ∷ t) (append_assoc a (34 ∷ []) rest)

pub label_at-takes : (bytes a rest : List ℕ) → label_at bytes ≡ Some (a, rest) →
    (spelling : List ℕ) × Label spelling a × (bytes ≡ spelling ++ rest)
unfolding label_at
label_at-takes [] a rest e = absurd cc
label_at-takes (b ∷ bs) a rest e =
    cond_both (b == 34) (quoted_at bs) (plain_at (b ∷ bs))
    (λ r. r ≡ Some (a, rest) → (spelling : List ℕ) × Label spelling a × (b ∷ bs ≡ spelling ++ rest))
    (λ mark f. let h = quoted_at-takes bs a rest f in
    (quoted a, inr (h.0, refl), rw (eqb-true b 34 mark, quoted-append, h.1) refl))
    (λ _ f. let h = plain_at-takes (b ∷ bs) a rest f in (a, inl (h.0, refl), h.1))
    e

label_at-plain : (a rest : List ℕ) → is_plain a ≡ true → label_at (a ++ rest) ≡ plain_at (a ++ rest)
unfolding label_at
label_at-plain a rest e = grind arith

label_at-quoted : (bytes : List ℕ) → label_at (34 ∷ bytes) ≡ quoted_at bytes
unfolding label_at
label_at-quoted bytes = refl

pub label_at-again : (spelling a rest : List ℕ) → Label spelling a → Stops is_word rest → Without 34 rest →
    label_at (spelling ++ rest) ≡ Some (a, rest)
label_at-again spelling a rest label stops none =
    grind (arith, label_at-plain, plain_at-again, quoted-append, label_at-quoted, quoted_at-again)

-- ---- The bytes of a label

pub IsToken-label : (spelling a : List ℕ) → Label spelling a → IsToken spelling
IsToken-label spelling a label = grind arith

pub IsLabel-spelled : (spelling a : List ℕ) → Label spelling a → IsLabel a
IsLabel-spelled spelling a label = grind (arith, IsLabel-plain)

-- A byte less than 32 does not occur in the written forms of a label, because their bytes are printable.
pub Without-label : (c : ℕ) (spelling a : List ℕ) → c < 32 → Label spelling a → Without c spelling
Without-label c spelling a low label =
    let inside = All-weaker (λ b. (32 ≤ b) × (b ≤ 126)) (λ b. b ≢ c) (λ b h e. omega (arith, h.0)) a
    (IsLabel-spelled spelling a label).printable in
    let mark : 34 ≢ c = λ e. omega arith in
    elim label [
      | inl h ↦ rw h.1 inside
      | inr h ↦ rw h.1 (All-cons (λ b. b ≢ c) 34 (a ++ 34 ∷ []) mark (All-push (λ b. b ≢ c) a 34 inside mark))
    ]
