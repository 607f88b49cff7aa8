-- The lemmas in this file are about the errors of an input, which is a system or a hide list (a file with the labels to
-- hide). If each line of an input is correct or has exactly one error, then the input has at most one first error
-- (`FaultFrom`), and it has no first error if and only if it is correct as a whole. The bytes at the beginning of an
-- input may already show which error is the first error, whatever bytes follow.
use Rattle.std.proofs.Common.{◌≡◌, ◌≢◌, ◌⊎◌, ◌↔◌, ⊎_elim, ℕ, ◌+◌, ◌<◌, ◌≤◌, List, [], ◌∷◌, ◌++◌, length, replicate}
use Rattle.std.proofs.Common.{Option, None, Some, refl, sym, ◌∙◌, ap, subst, inl, inr, arith}
use Rattle.std.specs.List.{AllZip}
use Rattle.std.proofs.lemmas.{Bool.cases_lt, Option.same_Some, Option.none-some, List.append-nil, List.append_assoc}
use Rattle.std.proofs.lemmas.List.{length-append, length-replicate, Elements.All-append, Elements.All-replicate}
use Rattle.autfmt.specs.{declared.fault.Fault.Fault, declared.line.TheConstants.LONGEST_LINE, Texts.lines_of}
use Rattle.autfmt.specs.{Texts.IsOneLine, Texts.IsShort, Faults.LineFault, Faults.FaultFrom, Cutter.IsPart}
use Rattle.autfmt.specs.Faults.LineFault.{too_long, unread, wrong}
use Rattle.autfmt.specs.declared.fault.Fault.TheVariants.{LineTooLong, ExtraText, TooManyHidden}
use Rattle.autfmt.proofs.Lines.{IsReader, one_reading, decided}
use Rattle.autfmt.proofs.Cutting.{only_line, ended_go_on, Divides, Grows}

-- Suppose that an input can be read or has an error, and that it has no error if it can be read. Then the input can be
-- read if and only if it has no error.
pub without_fault : {X : Type 0} (P : Fault → Type 0) → X ⊎ ((f : Fault) × P f) → (X → (f : Fault) → ¬ P f) →
    ((f : Fault) → ¬ P f) ↔ X
without_fault P one not_both = (λ none. ⊎_elim (λ x. x) (λ bad. absurd (none bad.0 bad.1)) one, not_both)

none_or_some : {A : Type 0} (o : Option A) → (o ≡ None) ⊎ ((x : A) × (o ≡ Some x))
none_or_some None = inl refl
none_or_some (Some x) = inr (x, refl)

-- ---- The error of a line

-- `IsJudged Good Bad` holds if a line either is correct or has exactly one error. `Good x` states that the line is
-- correct and has the contents x, and `Bad f` states that f is the error of the line. There must not be two different
-- values x with `Good x`.
pub record IsJudged {X : Type 0} (Good : X → Type 0) (Bad : Fault → Type 0) : Type 0 where
  pub one : (x y : X) → Good x → Good y → x ≡ y
  pub one_fault : (f g : Fault) → Bad f → Bad g → f ≡ g
  pub apart : (x : X) (f : Fault) → Good x → Bad f → ⊥
  pub judged : ((x : X) × Good x) ⊎ ((f : Fault) × Bad f)

-- Suppose that the value x is the result of reading a line (`read`) if and only if x is the contents of the line
-- (`IsRead x`). Then the line is not too long and has contents without an error, or it has exactly one error
-- (`LineFault`).
pub LineFault-judged : {X : Type 0} {read : Option X} {IsRead : X → Type 0} → IsReader read IsRead →
    (fault_in : X → Option Fault) (k : ℕ) (bad : Fault) (line : List ℕ) →
    IsJudged (λ x. IsShort line × IsRead x × (fault_in x ≡ None)) (LineFault IsRead fault_in k bad line)
LineFault-judged reader fault_in k bad line = record {
  one = λ x y g h. one_reading reader x y g.1 h.1;
  one_fault = λ f g a b. let one = one_reading reader in grind (arith, one);
  apart = λ x f good a. let one = one_reading reader in grind (arith, one);
  judged = elim (cases_lt LONGEST_LINE (length line)) [
    | inl long ↦ inr (LineTooLong k, too_long refl long)
    | inr short ↦ elim (decided reader) [
      | inr none ↦ inr (bad, unread refl short none)
      | inl (x, is) ↦ ⊎_elim (λ none. inl (x, (short, is, none))) (λ found. inr (found.0, wrong x short is found.1))
          (none_or_some (fault_in x))
    ]
  ];
}

-- `Lasts f` holds if f is one of the errors that remain the error of a line if further bytes are appended to the line.
abbrev pub Lasts : Fault → Type 0
Lasts (LineTooLong k) = Unit
Lasts (ExtraText k) = Unit
Lasts TooManyHidden = Unit
Lasts f = ⊥

-- Suppose that the error f of a line lasts (`Lasts`), and that neither the error of a line without contents nor an
-- error in the contents lasts. Then f remains the error of the line if further bytes are appended to the line.
pub LineFault-lasts : {X : Type 0} {IsRead IsRead' : X → Type 0} {fault_in : X → Option Fault} {k : ℕ} {bad : Fault}
    {line : List ℕ} (tail : List ℕ) (f : Fault) → Lasts f → (Lasts bad → ⊥) →
    ((x : X) → fault_in x ≡ Some f → Lasts f → ⊥) → LineFault IsRead fault_in k bad line f →
    LineFault IsRead' fault_in k bad (line ++ tail) f
LineFault-lasts {line = line} tail f lasts not_bad not_in (too_long e long) =
    too_long e (omega (arith, length-append line tail))
LineFault-lasts tail f lasts not_bad not_in (unread e short none) = absurd (not_bad (subst Lasts e lasts))
LineFault-lasts tail f lasts not_bad not_in (wrong x short is e) = absurd (not_in x e lasts)

-- Suppose that a line either is correct or has exactly one error. Suppose also that `Valued y` holds if and only if y
-- is the value `value x` for the contents x of a correct line. Then `IsJudged` also holds with the values in place of
-- the contents.
pub IsJudged-map : {X Y : Type 0} {Good : X → Type 0} {Bad : Fault → Type 0} {Valued : Y → Type 0} (value : X → Y) →
    IsJudged Good Bad → ((x : X) → Good x → Valued (value x)) →
    ((y : Y) → Valued y → (x : X) × Good x × (y ≡ value x)) → IsJudged Valued Bad
IsJudged-map value law to from = record {
  one = λ y z a b.
      let (x, good, e) = from y a in let (x', good', e') = from z b in
      e ∙ ap value (law.one x x' good good') ∙ sym e';
  one_fault = law.one_fault;
  apart = λ y f a bad. let (x, good, e) = from y a in law.apart x f good bad;
  judged = ⊎_elim (λ good. inl (value good.0, to good.0 good.1)) (λ bad. inr bad) law.judged;
}

-- Suppose that a line either is correct or has exactly one error. Then this still holds if at most `most` lines are
-- allowed, the line follows `found` lines, and a line that is not allowed has the error `extra`.
pub IsJudged-limit : {X : Type 0} {Good : X → Type 0} {Bad : Fault → Type 0} (found most : ℕ) (extra : Fault) →
    IsJudged Good Bad →
    IsJudged (λ x. (found < most) × Good x) (λ f. ((found < most) × Bad f) ⊎ ((most ≤ found) × (f ≡ extra)))
IsJudged-limit found most extra law = record {
  one = λ x y a b. law.one x y a.1 b.1;
  one_fault = λ f g a b. let one = law.one_fault f g in grind (arith, one);
  apart = λ x f a b. let apart = law.apart x f in grind (arith, apart);
  judged = elim (cases_lt found most) [
    | inr full ↦ inr (extra, inr (full, refl))
    | inl less ↦ ⊎_elim (λ a. inl (a.0, (less, a.1))) (λ b. inr (b.0, inl (less, b.1))) law.judged
  ];
}

-- ---- The first error of lines

-- `Steps Good before lines after` holds if all lines of the list `lines` are correct after the lines that `before`
-- describes, and if `after` describes all these lines (`FaultFrom` explains `Good`).
abbrev pub Steps : {S : Type 0} → (S → List ℕ → S → Type 0) → S → List (List ℕ) → S → Type 0
Steps Good before [] after = before ≡ after
Steps {S = S} Good before (line ∷ others) after = (next : S) × Good before line next × Steps Good next others after

-- Assume that an input may contain at most `most` lines of a certain kind, and that `state i` describes the first lines
-- of an input, of which the last i lines are of this kind. Assume also that a line is correct after these lines if and
-- only if i is less than `most` and the line has some contents x (`IsLine line x`).
module _ {S X : Type 0} (Good : S → List ℕ → S → Type 0) (IsLine : List ℕ → X → Type 0) (most : ℕ) (state : ℕ → S)
    (is : (i : ℕ) (line : List ℕ) (next : S) →
    Good (state i) line next ↔ ((i < most) × ((x : X) × IsLine line x × (next ≡ state (i + 1))))) where
  -- If all lines are correct, and there are not too many of them, then `Steps` holds for them.
  pub Steps-from : (lines : List (List ℕ)) (xs : List X) (i j : ℕ) → AllZip IsLine lines xs → j ≡ i + length xs →
      j ≤ most → Steps Good (state i) lines (state j)
  Steps-from [] [] i j good e few = let same : i ≡ j = omega arith in ap state same
  Steps-from (line ∷ lines) (x ∷ xs) i j good e few = (
    state (i + 1),
    (is i line (state (i + 1))).1 (omega arith, (x, good.0, refl)),
    Steps-from lines xs (i + 1) j good.1 (omega arith) few,
  )
  Steps-from lines xs i j good e few = absurd good

  -- If `Steps` holds for lines, then all these lines are correct, and there are not too many of them.
  pub Steps-lines : (lines : List (List ℕ)) (i : ℕ) (after : S) → i ≤ most → Steps Good (state i) lines after →
      (xs : List X) × (j : ℕ) × AllZip IsLine lines xs × (j ≡ i + length xs) × (j ≤ most) × (after ≡ state j)
  Steps-lines [] i after few e = ([], i, tt, omega arith, few, sym e)
  Steps-lines (line ∷ lines) i after few (next, good, steps) =
      let (less, (x, one, e)) = (is i line next).0 good in
      let (xs, j, each, size, within, end) =
      Steps-lines lines (i + 1) after (omega arith) (rw e at steps) in
      (x ∷ xs, j, (one, each), omega arith, within, end)

-- `AreJudged Good Bad end_fault` holds if each line is either correct (`Good`) or has exactly one error (`Bad`). The
-- error `LineTooLong` must be the error of a line only if the line is too long. An error that lasts (`Lasts`) must
-- remain the error of a line if bytes are appended to the line, and must not be the error of an input that ends too
-- early (`end_fault`).
pub record AreJudged {S : Type 0} (Good : S → List ℕ → S → Type 0) (Bad : S → List ℕ → Fault → Type 0)
    (end_fault : S → Option Fault) : Type 0 where
  pub line : (s : S) (line : List ℕ) → IsJudged (Good s line) (Bad s line)
  pub long : (s : S) (line : List ℕ) (k : ℕ) → Bad s line (LineTooLong k) → LONGEST_LINE < length line
  pub lasts : (s : S) (line tail : List ℕ) (f : Fault) → Lasts f → Bad s line f → Bad s (line ++ tail) f
  pub end : (s : S) (f : Fault) → Lasts f → end_fault s ≡ Some f → ⊥

-- For each number, there is a line with this number of bytes.
long_line : (n : ℕ) → (line : List ℕ) × IsOneLine line × (length line ≡ n)
long_line n = (
  replicate n 0,
  All-replicate (λ b. b ≢ 10) n 0 (λ e. absurd (omega arith)),
  let zero : ℕ = 0 in length-replicate n zero,
)

-- Assume that each line is either correct or has exactly one error.
module _ {S : Type 0} {Good : S → List ℕ → S → Type 0} {Bad : S → List ℕ → Fault → Type 0}
    {end_fault : S → Option Fault} (law : AreJudged Good Bad end_fault) where
  -- `First s lines f` holds if f is the first error in the lines `lines`, which follow the lines that s describes.
  abbrev pub First : S → List (List ℕ) → Fault → Type 0
  First = FaultFrom Good Bad end_fault

  -- Lines have at most one first error.
  pub FaultFrom-unique : (s : S) (lines : List (List ℕ)) (f g : Fault) → First s lines f → First s lines g → f ≡ g
  FaultFrom-unique s [] f g a b = same_Some f g (sym a ∙ b)
  FaultFrom-unique s (line ∷ others) f g (inl a) (inl b) = (law.line s line).one_fault f g a b
  FaultFrom-unique s (line ∷ others) f g (inl a) (inr (t, good, b)) = absurd ((law.line s line).apart t f good a)
  FaultFrom-unique s (line ∷ others) f g (inr (t, good, a)) (inl b) = absurd ((law.line s line).apart t g good b)
  FaultFrom-unique s (line ∷ others) f g (inr (t, good, a)) (inr (u, good', b)) =
      let same = (law.line s line).one u t good' good in
      FaultFrom-unique t others f g a (rw same at b)

  -- If correct lines are put in front of lines, the first error remains the same.
  pub FaultFrom-behind : (s t : S) (front others : List (List ℕ)) (f : Fault) → Steps Good s front t →
      First s (front ++ others) f ↔ First t others f
  FaultFrom-behind s t [] others f e =
      subst (λ (u : S). First s others f ↔ First u others f) e (λ h. h, λ h. h)
  FaultFrom-behind s t (line ∷ front) others f (u, good, steps) =
      let (there, back) = FaultFrom-behind u t front others f steps in
      let judged = law.line s line in (
        ⊎_elim (λ bad. absurd (judged.apart u f good bad)) (λ h. there (rw (judged.one h.0 u h.1 good) at h.2)),
        λ h. inr (u, good, back h),
      )

  -- If all lines are correct, and an input may end after them, then these lines have no first error.
  pub FaultFrom-none : (s t : S) (lines : List (List ℕ)) (f : Fault) → Steps Good s lines t → end_fault t ≡ None →
      First s lines f → ⊥
  FaultFrom-none s t lines f steps none bad =
      let e = (FaultFrom-behind s t lines [] f steps).0 (rw append-nil bad) in cc

  -- Either all lines are correct, and an input may end after them, or the lines have a first error.
  pub FaultFrom-judged : (s : S) (lines : List (List ℕ)) →
      ((t : S) × Steps Good s lines t × (end_fault t ≡ None)) ⊎ ((f : Fault) × First s lines f)
  FaultFrom-judged s [] = ⊎_elim (λ none. inl (s, refl, none)) (λ found. inr found) (none_or_some (end_fault s))
  FaultFrom-judged s (line ∷ others) = elim (law.line s line).judged [
    | inr (f, bad) ↦ inr (f, inl bad)
    | inl (t, good) ↦ elim (FaultFrom-judged t others) [
      | inr (f, bad) ↦ inr (f, inr (t, good, bad))
      | inl (u, steps, none) ↦ inl (u, (t, good, steps), none)
    ]
  ]

  -- Suppose that lines have a first error, and that it is not the error of an input that ends too early. Then this
  -- error remains the first error if further lines follow.
  go_on : (s : S) (lines more : List (List ℕ)) (f : Fault) →
      ((t : S) → Steps Good s lines t → end_fault t ≡ Some f → ⊥) → First s lines f → First s (lines ++ more) f
  go_on s [] more f some bad = absurd (some s refl bad)
  go_on s (line ∷ others) more f some (inl bad) = inl bad
  go_on s (line ∷ others) more f some (inr (t, good, bad)) =
      inr (t, good, go_on t others more f (λ u steps. some u (t, good, steps)) bad)

  -- Suppose that a text ends with a line feed, and that its lines have a first error, which is not the error of an
  -- input that ends too early. Then this error remains the first error if further bytes are appended to the text.
  pub FaultFrom-ended : (s : S) (front more : List ℕ) (f : Fault) →
      ((t : S) → Steps Good s (lines_of (front ++ 10 ∷ [])) t → end_fault t ≡ Some f → ⊥) →
      First s (lines_of (front ++ 10 ∷ [])) f → First s (lines_of ((front ++ 10 ∷ []) ++ more)) f
  FaultFrom-ended s front more f some bad =
      rw (append_assoc, ended_go_on front more) (go_on s (lines_of (front ++ 10 ∷ [])) (lines_of more) f some bad)

  -- If the first error of lines lasts (`Lasts`), then it remains the first error if bytes are appended to the last
  -- line, or if further lines follow.
  pub FaultFrom-lasts : (f : Fault) → Lasts f → (s : S) (lines longer : List (List ℕ)) → Grows lines longer →
      First s lines f → First s longer f
  FaultFrom-lasts f lasts s [] longer grows bad = absurd (law.end s f lasts bad)
  FaultFrom-lasts f lasts s (line ∷ []) longer (tail, others, e) (inl bad) =
      rw e (inl (law.lasts s line tail f lasts bad))
  FaultFrom-lasts f lasts s (line ∷ []) longer grows (inr (t, good, bad)) = absurd (law.end t f lasts bad)
  FaultFrom-lasts f lasts s (line ∷ next ∷ lines) longer (others, e, grows) (inl bad) = rw e (inl bad)
  FaultFrom-lasts f lasts s (line ∷ next ∷ lines) longer (others, e, grows) (inr (t, good, bad)) =
      rw e (inr (t, good, FaultFrom-lasts f lasts t (next ∷ lines) others grows bad))

  -- If bytes can be a part of one line, the first error of these bytes is not `LineTooLong`.
  not_long : (s : S) (bytes : List ℕ) (k : ℕ) → IsPart bytes → First s (lines_of bytes) (LineTooLong k) → ⊥
  not_long s [] k part bad = law.end s (LineTooLong k) tt bad
  not_long s (b ∷ bs) k part bad =
      let one = only_line (b ∷ bs) part.0 (omega arith) in
      elim (subst (λ (ls : List (List ℕ)). First s ls (LineTooLong k)) one bad) [
        | inl h ↦ omega (arith, law.long s (b ∷ bs) k h, part.1)
        | inr (t, good, h) ↦ law.end t (LineTooLong k) tt h
      ]

  -- Let `given` be the bytes that have been read so far. Suppose that these bytes consist of correct lines, which t
  -- describes, and of the bytes `rest`, which can be a part of the next line (`IsPart`). Suppose also that one of two
  -- conditions holds. Either `LineTooLong` is the error of each further line that is too long, or there are no bytes of
  -- the next line and an input may end after the lines. Then the bytes `given` do not determine the first error of the
  -- whole input. If the first condition holds and further bytes make the last line too long, the first error is
  -- `LineTooLong`. If no bytes follow, there is no error or another first error.
  pub FaultFrom-not_known : (s t : S) (given : List ℕ) (ended : List (List ℕ)) (rest : List ℕ) →
      Divides given ended rest → Steps Good s ended t → IsPart rest →
      ((k : ℕ) × ((line : List ℕ) → LONGEST_LINE < length line → Bad t line (LineTooLong k)))
      ⊎ ((rest ≡ []) × (end_fault t ≡ None)) →
      (fault : Fault) → ((more : List ℕ) → First s (lines_of (given ++ more)) fault) → ⊥
  FaultFrom-not_known s t given ended rest divides steps part open_at fault known =
      ⊎_elim (λ long. against long.0 long.1 (long_line (LONGEST_LINE + 1)))
      (λ end. let bad = rw end.0 at after [] in absurd (none-some fault (sym end.1 ∙ bad))) open_at
    where
      after : (more : List ℕ) → First t (lines_of (rest ++ more)) fault
      after more =
          (FaultFrom-behind s t ended (lines_of (rest ++ more)) fault steps).0
          (subst (λ (ls : List (List ℕ)). First s ls fault) (divides more) (known more))

      against : (k : ℕ) → ((line : List ℕ) → LONGEST_LINE < length line → Bad t line (LineTooLong k)) →
          (more : List ℕ) × IsOneLine more × (length more ≡ LONGEST_LINE + 1) → ⊥
      against k long (more, one, size) =
          let longer = length-append rest more in
          let line = only_line (rest ++ more) (All-append (λ b. b ≢ 10) rest more part.0 one) (omega arith) in
          let bad : First t (lines_of (rest ++ more)) (LineTooLong k) =
          rw line (inl (long (rest ++ more) (omega arith))) in
          let e = FaultFrom-unique t (lines_of (rest ++ more)) fault (LineTooLong k) (after more) bad in
          let none = after [] in not_long t rest k part (rw (append-nil, e) at none)
