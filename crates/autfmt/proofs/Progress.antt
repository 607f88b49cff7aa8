-- The lemmas in this file are about writing lines to a sink (an object to which an output is written) through a buffer.
-- The last lemmas are about labels and targets that are written to the buffer by copying an array of fixed length.
use Rattle.std.proofs.Common.{◌≡◌, ℕ, ◌+◌, ◌<◌, List, [], ◌++◌, length, get_or, take, drop, refl, sym, ap, ◌∙◌}
use Rattle.std.proofs.Common.{subst, Option, append_assoc, arith, inl, inr, ◌-◌, ◌≤◌, ◌∷◌, codes, decimal, ap₂}
use Rattle.std.proofs.Common.{flat_map, length-append, append-nil, take-append-drop, take-take, length-take-le}
use Rattle.std.proofs.Common.{length-drop}
use Rattle.std.specs.Io.KnownBytes.{Appends}
use Rattle.std.proofs.{KnownBytes.Appends-nil, KnownBytes.Appends-trans, Math.Seq.take-append-add}
use Rattle.std.proofs.lemmas.{List.Concat.flat_map-append, Bool.cases_lt}
use Rattle.std.proofs.lemmas.List.{take_more, get_or-map, get_or_append_left, get_or-append_right}
use Rattle.theory.specs.System.{Transition}
use Rattle.lts.specs.Labels.{text_of}
use Rattle.autfmt.specs.{Progress.Progress, Ranks.Entry, Ranks.texts, Stream.AppendsPrefix}
use Rattle.autfmt.specs.{Written.written_transition, Fronts.IsSpelled, Fronts.AreSpelled}
use Rattle.autfmt.specs.declared.spelling.Spelled.{Spelled}
use Rattle.autfmt.proofs.Lists.{begins_with}

-- Suppose that bytes of the buffer are written to the sink (the object to which the output is written) and removed from
-- the buffer. Then the list of the bytes that were written, followed by the bytes in the buffer, does not change.
pub goes_on : {old mid new : Option (List ℕ)} {waiting later bytes : List ℕ} → Progress old mid waiting bytes →
    Progress mid new later waiting → Progress old new later bytes
goes_on {old} {mid} {new} {waiting} {later} p q =
    grind (arith, p.front, q.front, Appends-trans, p.gained, q.gained, p.whole, q.whole, append_assoc)

-- Suppose that `bytes` are the bytes that were written to the sink (the object to which the output is written),
-- followed by the bytes in the buffer. If further bytes are appended to the buffer, then the bytes that were written,
-- followed by the bytes in the buffer, are the list `bytes` followed by these further bytes.
pub waits_too : {old new : Option (List ℕ)} {waiting bytes : List ℕ} (more : List ℕ) → Progress old new waiting bytes →
    Progress old new (waiting ++ more) (bytes ++ more)
waits_too {waiting = waiting} more p = grind (arith, p.front, p.gained, p.whole, append_assoc)

-- As long as nothing has been written to the sink (the object to which the output is written), all bytes that have been
-- produced are in the buffer.
pub nothing_put : (w : Option (List ℕ)) (bytes : List ℕ) → Progress w w bytes bytes
nothing_put w bytes = record { front = []; gained = Appends-nil w; whole = refl }

-- Suppose that writing the bytes in the buffer to the sink (the object to which the output is written) fails. Then the
-- bytes that were written to the sink are a prefix of each list that begins with the output that has been produced so
-- far.
pub beginning_put : {old mid : Option (List ℕ)} {waiting bytes : List ℕ} (new : Option (List ℕ)) (rest : List ℕ) →
    Progress old mid waiting bytes → AppendsPrefix mid new waiting → AppendsPrefix old new (bytes ++ rest)
beginning_put {old} {mid} new rest p (front, back, is, put) = (
  p.front ++ front,
  back ++ rest,
  rw (p.whole, is) (simp append_assoc),
  Appends-trans old mid new p.front front p.gained put,
)

pub everything_put : {old mid : Option (List ℕ)} {waiting bytes : List ℕ} (new : Option (List ℕ)) →
    Progress old mid waiting bytes → Appends mid new waiting → Appends old new bytes
everything_put {old} {mid} {waiting} new p put = rw p.whole (Appends-trans old mid new p.front waiting p.gained put)

-- The lines of a row, which consists of the outgoing transitions of one state, are written one after the other.
module _ (row : List Transition) where
  -- `lines_to i` returns the lines of the first i transitions of the row.
  abbrev pub lines_to : ℕ → List ℕ
  lines_to i = flat_map written_transition (take i row)

  -- Suppose that the bytes that were written to the sink (the object to which the output is written), followed by the
  -- bytes in the buffer, are the bytes `start`, followed by the lines of the first i transitions of a row. Suppose also
  -- that bytes of the buffer are then written to the sink, and that the line of the transition at the index i of this
  -- row is appended to the buffer. Then the bytes that were written to the sink, followed by the bytes in the buffer,
  -- are `start`, followed by the lines of the first i + 1 transitions.
  pub line_waits : {old mid new : Option (List ℕ)} {waiting earlier now : List ℕ} (start : List ℕ) (i : ℕ)
      (e : Transition) → i < length row → get_or row i e ≡ e → Progress old mid waiting (start ++ lines_to i)
      → Progress mid new earlier waiting → now ≡ earlier ++ written_transition e
      → Progress old new now (start ++ lines_to (i + 1))
  line_waits start i e h here p q is =
      let more : lines_to (i + 1) ≡ lines_to i ++ written_transition e =
      rw (take_more row i e h, here, flat_map-append, append-nil) refl in
      rw (is, more, ← append_assoc start (lines_to i) (written_transition e))
      (waits_too (written_transition e) (goes_on p q))

  -- Suppose that the first i lines of a row have been appended to the buffer, and that writing the buffer to the sink
  -- (the object to which the output is written) fails. Then the bytes that were written to the sink are a prefix of the
  -- output up to the end of this row.
  pub row_begun : {old mid : Option (List ℕ)} {waiting : List ℕ} (new : Option (List ℕ)) (start : List ℕ) (i : ℕ)
      → Progress old mid waiting (start ++ lines_to i) → AppendsPrefix mid new waiting
      → AppendsPrefix old new (start ++ flat_map written_transition row)
  row_begun {old} new start i p put =
      let rest = flat_map written_transition (drop i row) in
      let all : lines_to i ++ rest ≡ flat_map written_transition row = rw (← flat_map-append, take-append-drop) refl in
      subst (AppendsPrefix old new) (append_assoc start (lines_to i) rest ∙ ap (λ l. start ++ l) all)
      (beginning_put new rest p put)

pub label_at : (entries : List Entry) (r : ℕ) (d : Entry) → r < length entries →
    (get_or entries r d).0.now ≡ text_of (texts entries) r
label_at entries r d h = sym (get_or-map (λ e. e.0.now) entries r d [] h)

-- ---- Labels and targets that are copied from an array of fixed length

-- Suppose that an array contains the digits of the target t at the indices i with start <= i < 10, and then a closing
-- parenthesis and a line feed. Then the bytes at the indices i with start <= i < 12 are the digits, the closing
-- parenthesis and the line feed.
target_of_line : (t start : ℕ) (bytes rest : List ℕ) → start + length (decimal t) ≡ 10
    → drop start bytes ≡ decimal t ++ (codes ")\n" ++ rest)
    → take (12 - start) (drop start bytes) ≡ decimal t ++ codes ")\n"
target_of_line t start bytes rest long is =
    let len : 12 - start ≡ length (decimal t) + 2 = omega (arith, long) in
    ap₂ (λ n l. take n l) len is ∙ take-append-add (decimal t) (codes ")\n" ++ rest) 2

-- Suppose that an array contains, from the index `start` on, the digits of the target t, a closing parenthesis and a
-- line feed. If 12 bytes of the array, from the index `start` on, are copied to the index `from` of a buffer, then the
-- buffer contains the digits, the closing parenthesis and the line feed at the index `from`.
pub target_put : (from t start n to : ℕ) (bytes rest old new : List ℕ) → n ≡ 12 → start + length (decimal t) ≡ 10
    → length bytes ≡ 22 → from ≤ length old
    → drop start bytes ≡ decimal t ++ (codes ")\n" ++ rest) → to ≡ from + length (take n (drop start bytes))
    → take to new ≡ take from old ++ take n (drop start bytes)
    → take (from + 12 - start) new ≡ take from old ++ decimal t ++ codes ")\n"
target_put from t start n to bytes rest old new twelve long size room is end put =
    let run = take n (drop start bytes) in
    let sum : from + 12 - start ≡ from + (12 - start) = omega (arith, long) in
    let behind = length-take-le n (drop start bytes) (omega (arith, twelve, long, size, length-drop start bytes)) in
    let first = begins_with from (12 - start) run old new room (omega (arith, twelve, long)) (rw end at put) in
    grind (arith, take-take, target_of_line, append_assoc)

-- An item is correct for a label if it stores no bytes, or stores the written form of the label, followed by a comma
-- and a space (`IsSpelled`). Suppose that the list `spellings` contains one correct item for each of the first i
-- labels, in the same order (`AreSpelled`). If a correct item for the next label is appended to the list, then the list
-- contains one correct item for each of the first i + 1 labels.
pub one_spelled_more : (entries : List Entry) (spellings grown : List Spelled) (x : Spelled) (i : ℕ) (d : Entry)
    → i < length entries → length spellings ≡ i → AreSpelled (texts entries) spellings
    → IsSpelled (get_or entries i d).0.now x → grown ≡ spellings ++ x ∷ [] → AreSpelled (texts entries) grown
one_spelled_more entries spellings grown x i d within last are is new =
    rw new (λ k e h. elim (cases_lt k (length spellings)) [
      | inl p ↦ rw (get_or_append_left spellings (x ∷ []) e k p) (are k e p)
      | inr p ↦ grind (arith, length-append, get_or-append_right, label_at)
    ])
