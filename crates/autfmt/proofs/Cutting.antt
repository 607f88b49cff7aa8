-- The lemmas in this file are about the lines of a text (`lines_of`). Most of them relate the lines of a text that
-- consists of two parts to the lines of its parts. The last lemmas are about the line splitter (`Cutter`), which
-- divides the input into lines, and puts a line together from several chunks of bytes.
use Rattle.std.proofs.Common.{◌≡◌, ◌≢◌, ℕ, ◌≤◌, List, [], ◌∷◌, ◌++◌, length, refl, sym, ◌∙◌, ap, inl, inr, arith, ◌<◌}
use Rattle.std.proofs.Common.{false, rules, ◌+◌, ◌-◌, Bool, true, suc, take, drop, Option}
use Rattle.std.specs.{Prelude.◌==◌, List.onto_first, List.slice_range, Io.KnownBytes.Consumes}
use Rattle.std.proofs.lemmas.{Bool.cases_eq, Bool.cond_both, Bool.ne_eqb, Grind.common_steps, Slice.between_is}
use Rattle.std.proofs.lemmas.List.{append-nil, length-append, append_assoc, length-drop, length-take, length-take-le}
use Rattle.std.proofs.lemmas.List.{take-append-drop, take-take, drop-take, drop-drop, drop_at}
use Rattle.std.proofs.lemmas.List.Elements.{All-head, All-tail, All-append}
use Rattle.std.proofs.KnownBytes.{Consumes-trans}
use Rattle.autfmt.specs.{Texts.lines_of, Texts.Lines, Texts.IsOneLine, Cutter.Cutting, Cutter.HasCut, Cutter.CutsLine}
use Rattle.autfmt.specs.{Cutter.BeginsTooLong, Cutter.IsPart, declared.line.TheConstants.LONGEST_LINE}
use Rattle.autfmt.specs.{declared.cutter.Found.TheVariants.Feed, Gathering.FoundIn, declared.cutter.TheConstants.CHUNK}
use Rattle.autfmt.specs.{declared.cutter.Step.Step, Gathering.Makes}
use Rattle.autfmt.specs.declared.cutter.Step.TheVariants.{Line, TooLong, End}

-- If a byte that is not a line feed is put in front of a text, then this byte is put in front of the first line of the
-- text. If the text is empty, the result is one line, which consists of this byte.
lines_of-byte : (b : ℕ) (text : List ℕ) → b ≢ 10 → lines_of (b ∷ text) ≡ onto_first b (lines_of text)
lines_of-byte b text other = rw (ne_eqb b 10 other) refl

-- If a line and a line feed are put in front of a text, then this line is put in front of the lines of the text.
pub lines_of-feed : (line more : List ℕ) → IsOneLine line → lines_of (line ++ 10 ∷ more) ≡ line ∷ lines_of more
lines_of-feed [] more one = refl
lines_of-feed (b ∷ line) more one =
    lines_of-byte b (line ++ 10 ∷ more) (All-head (λ b. b ≢ 10) b line one)
    ∙ ap (onto_first b) (lines_of-feed line more (All-tail (λ b. b ≢ 10) b line one))

-- Suppose that the bytes `front`, which contain no line feed, are put in front of a text with the lines `lines`. Then
-- `onto front lines` is the list of the lines of the result.
abbrev onto : List ℕ → List (List ℕ) → List (List ℕ)
onto [] lines = lines
onto (b ∷ bs) [] = (b ∷ bs) ∷ []
onto (b ∷ bs) (line ∷ others) = (b ∷ bs ++ line) ∷ others

onto-more : (b : ℕ) (front : List ℕ) (lines : List (List ℕ)) → onto_first b (onto front lines) ≡ onto (b ∷ front) lines
onto-more b [] [] = refl
onto-more b [] (line ∷ others) = refl
onto-more b (c ∷ front) [] = refl
onto-more b (c ∷ front) (line ∷ others) = refl

lines_of-onto : (front more : List ℕ) → IsOneLine front → lines_of (front ++ more) ≡ onto front (lines_of more)
lines_of-onto [] more one = refl
lines_of-onto (b ∷ front) more one =
    lines_of-byte b (front ++ more) (All-head (λ b. b ≢ 10) b front one)
    ∙ ap (onto_first b) (lines_of-onto front more (All-tail (λ b. b ≢ 10) b front one))
    ∙ onto-more b front (lines_of more)

-- Suppose that a text begins with at least one byte, and that the bytes at its beginning contain no line feed. Then the
-- first line of the text begins with these bytes.
pub first_begins : (front more : List ℕ) → IsOneLine front → 1 ≤ length front →
    (tail : List ℕ) × (others : List (List ℕ)) × (lines_of (front ++ more) ≡ (front ++ tail) ∷ others)
first_begins [] more one some = absurd (omega arith)
first_begins (b ∷ bs) more one some = pick (lines_of more) (lines_of-onto (b ∷ bs) more one)
  where
    pick : (lines : List (List ℕ)) → lines_of (b ∷ bs ++ more) ≡ onto (b ∷ bs) lines →
        (tail : List ℕ) × (others : List (List ℕ)) × (lines_of (b ∷ bs ++ more) ≡ (b ∷ bs ++ tail) ∷ others)
    pick [] e = ([], [], cc (append-nil bs))
    pick (line ∷ others) e = (line, others, e)

-- A text that is not empty and contains no line feed has exactly one line.
pub only_line : (line : List ℕ) → IsOneLine line → 1 ≤ length line → lines_of line ≡ line ∷ []
only_line [] one some = absurd (omega arith)
only_line (b ∷ bs) one some = ap lines_of (sym (append-nil (b ∷ bs))) ∙ lines_of-onto (b ∷ bs) [] one

-- `IsNotEmpty lines` holds if the list `lines` contains at least one line.
abbrev IsNotEmpty : List (List ℕ) → Type 0
IsNotEmpty lines = (line : List ℕ) × (others : List (List ℕ)) × (lines ≡ line ∷ others)

onto_first-not_empty : (b : ℕ) (lines : List (List ℕ)) → IsNotEmpty (onto_first b lines)
onto_first-not_empty b [] = (b ∷ [], [], refl)
onto_first-not_empty b (line ∷ others) = (b ∷ line, others, refl)

-- A text that is not empty has at least one line.
pub some_line : (text : List ℕ) → 1 ≤ length text → IsNotEmpty (lines_of text)
some_line [] some = absurd (omega arith)
some_line (b ∷ bs) some =
    cond_both (b == 10) ([] ∷ lines_of bs) (onto_first b (lines_of bs)) IsNotEmpty (λ _. ([], lines_of bs, refl))
    (λ _. onto_first-not_empty b (lines_of bs))

-- If bytes are appended to a text that ends with a line feed, then the lines of these bytes are appended to the lines
-- of the text.
pub ended_go_on : (front more : List ℕ) → lines_of (front ++ 10 ∷ more) ≡ lines_of (front ++ 10 ∷ []) ++ lines_of more
ended_go_on [] more = refl
ended_go_on (b ∷ front) more =
    let (line, others, some) = some_line (front ++ 10 ∷ []) (omega (arith, length-append front (10 ∷ []))) in
    let before = ended_go_on front more in
    elim (cases_eq b 10) [
      | inl feed ↦ rw (feed, before, some) refl
      | inr other ↦ rw (ne_eqb b 10 other, before, some) refl
    ]

-- `Divides given lines rest` holds if the bytes `given` consist of the lines `lines` and of the bytes `rest`. This
-- means that, for all bytes `more` that may follow, the lines of the whole input are the lines `lines`, followed by the
-- lines of `rest ++ more`.
abbrev pub Divides : List ℕ → List (List ℕ) → List ℕ → Type 0
Divides given lines rest = (more : List ℕ) → lines_of (given ++ more) ≡ lines ++ lines_of (rest ++ more)

-- `Grows lines longer` holds if the list `longer` begins with the lines of the list `lines`, except that bytes may have
-- been appended to the last of these lines.
abbrev pub Grows : List (List ℕ) → List (List ℕ) → Type 0
Grows [] longer = Unit
Grows (line ∷ []) longer = (tail : List ℕ) × (others : List (List ℕ)) × (longer ≡ (line ++ tail) ∷ others)
Grows (line ∷ next ∷ lines) longer = (others : List (List ℕ)) × (longer ≡ line ∷ others) × Grows (next ∷ lines) others

Grows-feed : (lines longer : List (List ℕ)) → Grows lines longer → Grows ([] ∷ lines) ([] ∷ longer)
Grows-feed [] longer grows = ([], longer, refl)
Grows-feed (line ∷ lines) longer grows = (longer, refl, grows)

Grows-byte : (b : ℕ) (lines longer : List (List ℕ)) → Grows lines longer →
    Grows (onto_first b lines) (onto_first b longer)
Grows-byte b [] [] grows = ([], [], refl)
Grows-byte b [] (line ∷ longer) grows = (line, longer, refl)
Grows-byte b (line ∷ []) longer (tail, others, e) = (tail, others, rw e refl)
Grows-byte b (line ∷ next ∷ lines) longer (others, e, grows) = (others, rw e refl, grows)

-- If bytes are appended to a text, then these bytes extend the last line of the text or are on further lines.
pub line_grows : (given more : List ℕ) → Grows (lines_of given) (lines_of (given ++ more))
line_grows [] more = tt
line_grows (b ∷ given) more =
    let grows = line_grows given more in
    elim (cases_eq b 10) [
      | inl feed ↦ rw feed (Grows-feed (lines_of given) (lines_of (given ++ more)) grows)
      | inr other ↦ rw (ne_eqb b 10 other) (Grows-byte b (lines_of given) (lines_of (given ++ more)) grows)
    ]

-- ---- The line splitter
-- `HasCut` says that the line splitter (`Cutter`) has divided the bytes that were read from the input into lines. The
-- lemmas about `HasCut` state which lines follow, and how the bytes are divided into lines, after a call of the line
-- splitter.

-- If two lists together are empty, then the second list is empty.
none_behind : (xs ys : List ℕ) → xs ++ ys ≡ [] → ys ≡ []
none_behind [] ys e = e
none_behind (x ∷ xs) ys e = absurd cc

-- Suppose that the line splitter has divided the bytes `given` into lines, and that no byte remains that is not yet
-- divided into lines. Then the lines that the line splitter has returned are all lines of the bytes that were read.
pub HasCut-end :
    (given got : List ℕ) (lines : List (List ℕ)) (old : Cutting) → HasCut given lines old → old.ahead ++ got ≡ [] →
    Lines (given ++ got) lines
HasCut-end given got lines old cut none =
    cut got (λ over. none_behind old.ahead got none) ∙ ap (λ (bytes : List ℕ). lines ++ lines_of bytes) none
    ∙ append-nil lines

-- `Follows step now P` holds if each list of lines that may follow has the property P. The argument `step` is the
-- result of splitting off the next line, and `now` is the state of the line splitter after this. If the result is
-- `Line`, the first line that follows is `now.line`. If the result is `TooLong`, the first line that follows is any
-- line that is too long. If the result is `End`, no line follows.
abbrev pub Follows : Step → Cutting → (List (List ℕ) → Type 0) → Type 0
Follows Line now P = (others : List (List ℕ)) → P (now.line ∷ others)
Follows TooLong now P = (line : List ℕ) (others : List (List ℕ)) → LONGEST_LINE < length line → P (line ∷ others)
Follows End now P = P []

-- `LeadsTo given lines over P` holds if every input that begins with the bytes `given` consists of the lines `lines`,
-- followed by a list of lines with the property P. If the input has ended (`over`), this must hold only for the input
-- `given`.
abbrev pub LeadsTo : List ℕ → List (List ℕ) → Bool → (List (List ℕ) → Type 0) → Type 0
LeadsTo given lines over P = (more : List ℕ) → (over ≡ true → more ≡ []) →
    (others : List (List ℕ)) × Lines (given ++ more) (lines ++ others) × P others

-- Assume that the line splitter in the state `old` has divided the bytes `given` into the lines `lines`, and that the
-- bytes `got` of the input are read next.
module _ (given got : List ℕ) (lines : List (List ℕ)) (old : Cutting) (cut : HasCut given lines old) where
  -- If the input has not ended, the bytes that were read consist of the lines that the line splitter has returned, and
  -- of the bytes that were not yet divided into lines, followed by the bytes `got`.
  pub HasCut-part : old.over ≡ false → Divides (given ++ got) lines (old.ahead ++ got)
  HasCut-part open_at more =
      rw (append_assoc given got more, append_assoc old.ahead got more) (cut (got ++ more) (λ over. absurd cc))

  -- Suppose that the bytes that were not yet divided into lines, followed by the bytes `got`, are a line, a line feed
  -- and the bytes `rest`. Then the bytes that were read consist of the lines that the line splitter has returned, this
  -- line, and the bytes `rest`.
  pub Divides-line : (line rest : List ℕ) → old.over ≡ false → IsOneLine line → old.ahead ++ got ≡ line ++ 10 ∷ rest →
      Divides (given ++ got) (lines ++ line ∷ []) rest
  Divides-line line rest open_at one is more =
      HasCut-part open_at more
      ∙ rw (is, append_assoc, lines_of-feed line (rest ++ more) one)
      (sym (append_assoc lines (line ∷ []) (lines_of (rest ++ more))))

  -- Suppose that the line splitter has divided the bytes `given` into the lines `lines`, reads the bytes `got`, and
  -- then splits off the next line. Then `HasCut` holds for all bytes that were read (`given ++ got`), and for the lines
  -- `lines`, followed by this line.
  pub HasCut-line : (now : Cutting) → (old.over ≡ false) × CutsLine (old.ahead ++ got) now →
      HasCut (given ++ got) (lines ++ now.line ∷ []) now
  HasCut-line now (open_at, cuts) more end = elim cuts.behind [
    | inl feed ↦ Divides-line now.line now.ahead open_at cuts.one feed.1 more
    | inr over ↦
        let next : lines_of (old.ahead ++ got ++ more) ≡ now.line ∷ lines_of (now.ahead ++ more) =
        rw (over.3, over.1, end over.0, append-nil) (only_line now.line cuts.one over.2) in
        HasCut-part open_at more ∙ ap (λ (ls : List (List ℕ)). lines ++ ls) next
        ∙ sym (append_assoc lines (now.line ∷ []) (lines_of (now.ahead ++ more)))
  ]

  -- Suppose that the line splitter has divided the bytes `given` into the lines `lines`, and reads the bytes `got` to
  -- split off the next line. If each list of lines that may follow has the property P (`Follows`), then the lines
  -- `lines` are followed by a list of lines with the property P (`LeadsTo`).
  pub after : (step : Step) (now : Cutting) (P : List (List ℕ) → Type 0) → Makes old.over (old.ahead ++ got) step now →
      Follows step now P → LeadsTo (given ++ got) lines now.over P
  after Line now P made follows more end =
      let rest = lines_of (now.ahead ++ more) in
      (now.line ∷ rest, HasCut-line now made more end ∙ append_assoc lines (now.line ∷ []) rest, follows rest)
  after TooLong now P (open_at, (front, tail, one, big, b)) follows more end =
      let (last, others, l) = first_begins front (tail ++ more) one (omega arith) in
      let long : LONGEST_LINE < length (front ++ last) = omega (arith, length-append front last) in
      ((front ++ last) ∷ others, HasCut-part open_at more ∙ rw (b, append_assoc, l) refl, follows _ others long)
  after End now P made follows more end =
      let l = HasCut-end given got lines old cut made.none in
      ([], rw (end made.over, append-nil, append-nil lines) l, follows)

  -- Suppose that bytes remain after the lines that the line splitter has returned, and that each list of at least one
  -- line has the property P. Then the lines that were returned are followed by lines with the property P.
  pub more_lines : (over : Bool) (P : List (List ℕ) → Type 0) → (old.over ≡ false) × (1 ≤ length (old.ahead ++ got)) →
      ((line : List ℕ) (others : List (List ℕ)) → P (line ∷ others)) → LeadsTo (given ++ got) lines over P
  more_lines over P (open_at, some) each more end =
      let (line, others, l) =
      some_line (old.ahead ++ got ++ more) (omega (arith, length-append (old.ahead ++ got) more)) in
      (line ∷ others, HasCut-part open_at more ∙ ap (λ (ls : List (List ℕ)). lines ++ ls) l, each line others)

-- ---- Chunks of bytes

-- Suppose that the buffer contains a part of a line, and that the next bytes of the line fit into the buffer. Then the
-- bytes of the buffer, followed by the next bytes, are a part of the line too.
pub IsPart-append : (buffer bytes : List ℕ) → IsPart buffer → IsOneLine bytes →
    length buffer + length bytes ≤ LONGEST_LINE → IsPart (buffer ++ bytes)
IsPart-append buffer bytes part one fits = grind (arith, common_steps, All-append, length-append)

-- Suppose that two calls read bytes from a source (an object from which an input is read), one call after the other.
-- Then both calls together read the bytes of the first call, followed by the bytes of the second call.
pub got_more : (a b c : Option (List ℕ)) (old bs buffer bytes : List ℕ) → Consumes a b bs → buffer ≡ old ++ bs →
    Consumes b c bytes → (x : List ℕ) × Consumes a c x × (old ++ x ≡ buffer ++ bytes)
got_more a b c old bs buffer bytes first e second = grind (arith, Consumes-trans, append_assoc)

-- Suppose that the buffer contains the beginning of a line, and that the chunk (the bytes that were last read from the
-- input) contains a line feed. If the bytes of the chunk before this line feed fit into the buffer and are appended to
-- the buffer, then the buffer contains the whole line.
pub feed_found :
    (a b c : Option (List ℕ)) (old bs buffer buf buffer' : List ℕ) (n at : ℕ) → Consumes a b bs → buffer ≡ old ++ bs →
    IsPart buffer → Consumes b c (take n buf) → n ≤ length buf → at < length (take n buf) →
    IsOneLine (take at (take n buf)) → drop at (take n buf) ≡ 10 ∷ drop (at + 1) (take n buf) →
    length buffer + length (take at (take n buf)) ≤ LONGEST_LINE → buffer' ≡ buffer ++ take at (take n buf) →
    (x : List ℕ) × Consumes a c x × FoundIn (old ++ x) (Feed at n) buffer' buf
feed_found a b c old bs buffer buf buffer' n at first e part second within below one feed fits now =
    let bytes = take n buf in
    let (x, taken, same) = got_more a b c old bs buffer bytes first e second in
    grind (arith, take-append-drop, between_is, append_assoc, length-take-le, IsPart-append)

-- Suppose that the buffer contains the beginning of a line, and that the next bytes of this line do not fit into the
-- buffer. Then the line is too long.
pub too_long : (a b c : Option (List ℕ)) (old bs buffer bytes front tail : List ℕ) →
    Consumes a b bs → buffer ≡ old ++ bs → IsPart buffer → Consumes b c bytes → bytes ≡ front ++ tail →
    IsOneLine front →
    (length buffer + length front ≤ LONGEST_LINE → ⊥) → (x : List ℕ) × Consumes a c x × BeginsTooLong (old ++ x)
too_long a b c old bs buffer bytes front tail first e part second split one big =
    let (x, taken, same) = got_more a b c old bs buffer bytes first e second in
    let whole : old ++ x ≡ (buffer ++ front) ++ tail = cc (append_assoc buffer front tail) in
    let longer = All-append (λ b. b ≢ 10) buffer front part.0 one in
    grind (arith, length-append)

-- Consider the elements of a list at the indices i with from <= i < to. The first `at` of these elements are the
-- elements at the indices i with from <= i < from + at.
slice_to : (chunk : List ℕ) (from to at : ℕ) → at ≤ to - from →
    slice_range chunk from (from + at) ≡ take at (slice_range chunk from to)
slice_to chunk from to at below = grind (arith, take-take)

-- Consider the elements of a list at the indices i with from <= i < to. If the first `at + 1` of these elements are
-- dropped, the other elements are the elements at the indices i with from + at + 1 <= i < to.
slice_behind : (chunk : List ℕ) (from to at : ℕ) → at < to - from → from ≤ to →
    drop (at + 1) (slice_range chunk from to) ≡ slice_range chunk (from + (at + 1)) to
slice_behind chunk from to at below ordered =
    let e : to - from ≡ at + 1 + (to - (from + (at + 1))) = omega arith in
    rw (e, drop-take, drop-drop) refl

-- `cut_at` is the state of a line splitter after it has split off a line that ends within the chunk. The chunk stores
-- the bytes that were last read from the input. Before this line was split off, the line feed after it was at the index
-- `at` of the bytes that were not yet divided into lines.
abbrev pub cut_at : List ℕ → ℕ → ℕ → ℕ → Bool → Cutting
cut_at chunk from to at over =
    record { line = slice_range chunk from (from + at); ahead = slice_range chunk (from + (at + 1)) to; over = over }

-- Suppose that the end of the input has not been reached, and that the chunk (the bytes that were last read from the
-- input) contains bytes that are not yet divided into lines. Suppose also that there is a line feed among these bytes.
-- Then the bytes before the first such line feed are the next line, and the bytes after it are not yet divided into
-- lines.
pub line_in_piece :
    (chunk : List ℕ) (from to at : ℕ) (over : Bool) → over ≡ false → at < length (slice_range chunk from to) →
    from ≤ to → to ≤ CHUNK → IsOneLine (take at (slice_range chunk from to)) →
    drop at (slice_range chunk from to) ≡ 10 ∷ drop (at + 1) (slice_range chunk from to) →
    CutsLine (slice_range chunk from to) (cut_at chunk from to at over)
line_in_piece chunk from to at over goes_on below ordered within one feed =
    grind (arith, length-take, slice_to, slice_behind, take-append-drop)

abbrev cutting : List ℕ → List ℕ → Bool → Cutting
cutting line ahead over = record { line = line; ahead = ahead; over = over }

-- If the chunk (the bytes that were last read from the input) contains bytes that are not yet divided into lines, the
-- source (the object from which the input is read) has not ended.
goes_on_ahead : (from to : ℕ) (over : Bool) → (over ≡ true → from ≡ to) → from < to → over ≡ false
goes_on_ahead from to over used some = grind arith

-- Suppose that the bytes that are not yet divided into lines begin with a line and its line feed. If the line splitter
-- skips this line, then the bytes that are not yet divided into lines are the bytes after the line feed.
pub passed : (handed chunk : List ℕ) (from to left : ℕ) (over : Bool) (line rest : List ℕ) → from ≤ to
    → to ≤ length chunk → (over ≡ true → from ≡ to) → slice_range chunk from to ≡ line ++ 10 ∷ rest
    → left ≡ length rest → cutting handed (slice_range chunk (to - left) to) over ≡ cutting handed rest false
passed handed chunk from to left over line rest ordered within used whole count =
    let long : length (slice_range chunk from to) ≡ to - from = search (rules, length-take, length-drop) in
    let size : to - from ≡ length line + suc (length rest) = cc (ap length whole, length-append line (10 ∷ rest)) in
    let next : to - left ≡ from + (length line + 1) = omega arith in
    cc (
      slice_behind chunk from to (length line) (omega arith) ordered,
      drop-drop 1 (length line) (line ++ 10 ∷ rest),
      drop_at line (10 ∷ rest) _ refl,
      goes_on_ahead from to over used (omega arith),
    )
