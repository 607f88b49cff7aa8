-- Every input denotes exactly one system, or has exactly one first error, which is the error that is reported. No input
-- denotes a system and has a first error. The same is true of hide lists (files with one label to hide on each line),
-- which can be read in exactly one way or have exactly one first error. The lemmas of `proofs/FirstFaults` apply to
-- both, because each line is correct or has exactly one error. If the bytes that have been read end with a line feed,
-- they already show the first error of the whole input, unless this error is that transitions are missing.
use Rattle.std.proofs.Common.{◌≡◌, ◌⊎◌, ⊎_elim, ℕ, ◌+◌, ◌<◌, ◌≤◌, List, [], ◌∷◌, ◌++◌, length, None, Some, refl, sym}
use Rattle.std.proofs.Common.{◌∙◌, inl, inr, arith, length-append}
use Rattle.std.specs.{List.AllZip, Prelude.nat_lt}
use Rattle.std.proofs.lemmas.{Option.cond_some, Slice.Zip.AllZip-long}
use Rattle.theory.specs.System.{System, Transition}
use Rattle.autfmt.specs.{declared.fault.Fault.Fault, Bounds.Bounds, Grammar.Header}
use Rattle.autfmt.specs.{declared.limits.TheConstants.MOST_LINES, declared.line.TheConstants.LONGEST_LINE}
use Rattle.autfmt.specs.declared.fault.Fault.TheVariants.{BadHeader, BadEdge, BadHide, LineTooLong, ExtraText}
use Rattle.autfmt.specs.declared.fault.Fault.TheVariants.{MissingEdges, TooManyHidden}
use Rattle.autfmt.specs.Texts.{lines_of, Lines, GoodHeader, SpellsTransition, SpellsAmong, Reads}
use Rattle.autfmt.specs.Faults.{numbers_fault, ends_fault, LinesBefore, GoodLine, BadLine, end_fault, FirstFault}
use Rattle.autfmt.specs.Faults.{JudgedFault}
use Rattle.autfmt.specs.HideLists.{Hides, HideReads, GoodHideLine, BadHideLine, FirstHideFault}
use Rattle.autfmt.proofs.Lines.{transition-label, header_reader, transition_reader, hide_line_reader, one_header}
use Rattle.autfmt.proofs.Lines.{one_transition, one_hide_line}
use Rattle.autfmt.proofs.{Lists.AllZip-unique, Cutting.some_line}
use Rattle.autfmt.proofs.FirstFaults.{IsJudged, IsJudged-map, IsJudged-limit, LineFault-judged, LineFault-lasts}
use Rattle.autfmt.proofs.FirstFaults.{Lasts, Steps, Steps-from, Steps-lines, AreJudged, FaultFrom-none}
use Rattle.autfmt.proofs.FirstFaults.{FaultFrom-judged, FaultFrom-ended}

-- ---- Systems

GoodLine-judged : (bounds : Bounds) (before : LinesBefore) (line : List ℕ) →
    IsJudged (GoodLine bounds before line) (BadLine bounds before line)
GoodLine-judged bounds None line =
    IsJudged-map (λ x. Some (x.1, x.2, 0))
    (LineFault-judged (header_reader line) (numbers_fault bounds) 1 BadHeader line)
    (λ x (short, header, none).
    let (low, few, few') : (x.0 < x.2) × (x.2 ≤ bounds.states) × (x.1 ≤ bounds.transitions) = grind arith in
    (x.0, x.1, x.2, record { short = short; header = header; first = low; states = few; transitions = few' }, refl))
    (λ next (f, m, n, good, e). ((f, m, n), (good.short, good.header, grind arith), e))
GoodLine-judged bounds (Some (m, n, found)) line =
    IsJudged-limit found m (ExtraText (found + 2))
    (IsJudged-map (λ x. Some (m, n, found + 1))
    (LineFault-judged (transition_reader line) (ends_fault n (found + 2)) (found + 2) (BadEdge (found + 2)) line)
    (λ x (short, spelled, none).
    let (low, low') : (x.0 < n) × (x.2 < n) = grind arith in
    let label = transition-label line x.0 x.1 x.2 spelled in (
      record { source = x.0; label = x.1; target = x.2 },
      ((short, spelled), record { source = low; label = label; target = low' }),
      refl,
    ))
    (λ next (e, good, is). ((e.source, e.label, e.target), (good.0.0, good.0.1, grind arith), is)))

-- Each line of an input is correct or has exactly one error.
pub texts_are_judged : (bounds : Bounds) → AreJudged (GoodLine bounds) (BadLine bounds) end_fault
texts_are_judged bounds = record { line = GoodLine-judged bounds; long = long; lasts = lasts; end = end }
  where
    long : (before : LinesBefore) (line : List ℕ) (k : ℕ) → BadLine bounds before line (LineTooLong k) →
        LONGEST_LINE < length line
    long None line k bad = grind arith
    long (Some (m, n, found)) line k bad = grind arith

    lasts : (before : LinesBefore) (line tail : List ℕ) (f : Fault) → Lasts f → BadLine bounds before line f →
        BadLine bounds before (line ++ tail) f
    lasts None line tail f l bad = LineFault-lasts tail f l (λ l. l) (λ x e l. grind arith) bad
    lasts (Some (m, n, found)) line tail f l (inl (less, bad)) =
        inl (less, LineFault-lasts tail f l (λ l. l) (λ x e l. grind arith) bad)
    lasts (Some (m, n, found)) line tail f l (inr full) = inr full

    end : (before : LinesBefore) (f : Fault) → Lasts f → end_fault before ≡ Some f → ⊥
    end None f l e = grind arith
    end (Some (m, n, found)) f l e = grind arith

-- If an input begins with a correct header and correct transitions, of which there are not too many, then `Steps` holds
-- for these lines.
pub Steps-text : {bounds : Bounds} {line : List ℕ} {f m n : ℕ} (lines : List (List ℕ)) (es : List Transition) (j : ℕ) →
    GoodHeader bounds line f m n → AllZip (SpellsAmong n) lines es → j ≡ length es → j ≤ m →
    Steps (GoodLine bounds) None (line ∷ lines) (Some (m, n, j))
Steps-text {bounds = bounds} {f = f} {m = m} {n = n} lines es j good spelled count few = (
  Some (m, n, 0),
  (f, m, n, good, refl),
  Steps-from (GoodLine bounds) (SpellsAmong n) m (λ i. Some (m, n, i)) (λ i line next. (λ h. h, λ h. h)) lines es 0 j
      spelled (omega arith) few,
)

-- If `Steps` holds for the lines of an input, and there is at least one line, then the lines are a correct header and
-- correct transitions, of which there are not too many.
text_steps : (bounds : Bounds) (line : List ℕ) (lines : List (List ℕ)) (after : LinesBefore) →
    Steps (GoodLine bounds) None (line ∷ lines) after →
    (f m n : ℕ) × (es : List Transition) × (j : ℕ) × GoodHeader bounds line f m n × AllZip (SpellsAmong n) lines es
    × (j ≡ length es) × (j ≤ m) × (after ≡ Some (m, n, j))
text_steps bounds line lines after (next, (f, m, n, good, e), steps) =
    let (es, j, spelled, count, few, end) =
    Steps-lines (GoodLine bounds) (SpellsAmong n) m (λ i. Some (m, n, i)) (λ i line next. (λ h. h, λ h. h)) lines 0
    after (omega arith) (rw e at steps) in
    (f, m, n, es, j, good, spelled, omega arith, few, end)

-- A line denotes at most one transition.
one_spelled : (line : List ℕ) (d e : Transition) → SpellsTransition line d → SpellsTransition line e → d ≡ e
one_spelled line d e a b =
    let same = one_transition line d.source d.target e.source e.target d.label e.label a.1 b.1 in
    λ i. record { source = same.0 i; label = same.1 i; target = same.2 i }

-- An input denotes at most one system.
pub Reads-unique : (bounds : Bounds) (text : List ℕ) (A B : System) → Reads bounds text A → Reads bounds text B → A ≡ B
Reads-unique bounds text A B a b =
    let same = sym b.whole ∙ a.whole in
    let header : b.header ≡ a.header = cc in
    let lines : b.lines ≡ a.lines = cc in
    let u = one_header a.header A.first _ A.states B.first _ B.states a.good.header (rw header at b.good.header) in
    let transitions =
    AllZip-unique (SpellsAmong A.states) (SpellsAmong B.states) (λ line d e h k. one_spelled line d e h.0 k.0) a.lines
    A.transitions B.transitions a.spelled (rw lines at b.spelled) in
    λ i. record { first = u.0 i; states = u.2 i; transitions = transitions i }

-- If an input denotes a system, the input has no error (`FirstFault`).
pub Reads-no_fault : (bounds : Bounds) (text : List ℕ) (A : System) (fault : Fault) → Reads bounds text A →
    FirstFault bounds text fault → ⊥
Reads-no_fault bounds text A fault r bad =
    let m = length A.transitions in
    FaultFrom-none (texts_are_judged bounds) None (Some (m, A.states, m)) (lines_of text) fault
    (rw r.whole (Steps-text r.lines A.transitions m r.good r.spelled refl (omega arith))) (grind arith) bad.first

-- If an input consists of a correct header and one correct line for each transition that the header declares, then the
-- input denotes a system.
pub Reads-from_lines :
    (bounds : Bounds) (text line : List ℕ) (lines : List (List ℕ)) (f m n : ℕ) (es : List Transition) →
    Lines text (line ∷ lines) → GoodHeader bounds line f m n → AllZip (SpellsAmong n) lines es → length es ≡ m →
    Reads bounds text (record { first = f; states = n; transitions = es })
Reads-from_lines bounds text line lines f m n es l g good count = grind arith

-- Every input denotes a system or has an error (`FirstFault`).
pub text_judged : (bounds : Bounds) (text : List ℕ) →
    ((A : System) × Reads bounds text A) ⊎ ((fault : Fault) × FirstFault bounds text fault)
text_judged bounds text = elim (FaultFrom-judged (texts_are_judged bounds) None (lines_of text)) [
  | inr (fault, bad) ↦ inr (fault, record { first = bad })
  | inl (after, steps, none) ↦ inl (reads (lines_of text) refl after steps none)
]
  where
    reads : (lines : List (List ℕ)) → Lines text lines → (after : LinesBefore) →
        Steps (GoodLine bounds) None lines after → end_fault after ≡ None → (A : System) × Reads bounds text A
    reads [] l after e none = absurd (grind arith)
    reads (line ∷ lines) l after steps none =
        let (f, m, n, es, j, good, spelled, count, few, e) = text_steps bounds line lines after steps in
        let all : length es ≡ m = grind arith in (
          record { first = f; states = n; transitions = es },
          Reads-from_lines bounds text line lines f m n es l good spelled all,
        )

-- Suppose that the bytes that have been read so far end with a line feed. Suppose also that an input that consists of
-- exactly these bytes has an error, and that its first error is not `MissingEdges` (transitions are missing). Then this
-- error is the first error of the whole input, whatever bytes follow.
pub ended_known : (bounds : Bounds) (front : List ℕ) (fault : Fault) → FirstFault bounds (front ++ 10 ∷ []) fault →
    ((found : ℕ) → fault ≡ MissingEdges found → ⊥) → JudgedFault bounds (front ++ 10 ∷ []) fault
ended_known bounds front fault bad found more =
    record { first = FaultFrom-ended (texts_are_judged bounds) None front more fault some bad.first }
  where
    some : (after : LinesBefore) → Steps (GoodLine bounds) None (lines_of (front ++ 10 ∷ [])) after →
        end_fault after ≡ Some fault → ⊥
    some after steps e =
        let (line, others, l) = some_line (front ++ 10 ∷ []) (omega (arith, length-append front (10 ∷ []))) in
        let (f, m, n, es, j, good, spelled, count, few, is) = text_steps bounds line others after (rw l at steps) in
        found j (sym (cond_some (nat_lt j m) (MissingEdges j) fault (rw is at e)).1)

-- ---- Hide lists

GoodHideLine-judged : (found : ℕ) (line : List ℕ) → IsJudged (GoodHideLine found line) (BadHideLine found line)
GoodHideLine-judged found line =
    IsJudged-limit found MOST_LINES TooManyHidden
    (IsJudged-map (λ a. found + 1)
    (LineFault-judged (hide_line_reader line) (λ a. None) (found + 1) (BadHide (found + 1)) line)
    (λ a (short, is, none). (a, (short, is), refl)) (λ next (a, good, e). (a, (good.0, good.1, refl), e)))

-- Each line of a hide list (a file with one label to hide on each line) is correct or has exactly one error.
pub hides_are_judged : AreJudged GoodHideLine BadHideLine (λ found. None)
hides_are_judged = record {
  line = GoodHideLine-judged;
  long = λ found line k bad. grind arith;
  lasts = λ found line tail f l bad.
      ⊎_elim (λ b. inl (b.0, LineFault-lasts tail f l (λ l. l) (λ x e l. cc) b.1)) (λ full. inr full) bad;
  end = λ found f l e. cc;
}

-- If all lines of a hide list (a file with one label to hide on each line) are correct, and there are not too many of
-- them, then `Steps` holds for these lines.
pub Steps-hides : (lines H : List (List ℕ)) (j : ℕ) → AllZip Hides lines H → j ≡ length H → j ≤ MOST_LINES →
    Steps GoodHideLine 0 lines j
Steps-hides lines H j good count few =
    Steps-from GoodHideLine Hides MOST_LINES (λ i. i) (λ i line next. (λ h. h, λ h. h)) lines H 0 j good (omega arith)
    few

-- A text can be read as a hide list (a file with one label to hide on each line) in at most one way.
pub HideReads-unique : (text : List ℕ) (H H' : List (List ℕ)) → HideReads text H → HideReads text H' → H ≡ H'
HideReads-unique text H H' a b =
    let same = sym b.1 ∙ a.1 in
    AllZip-unique Hides Hides (λ line x y h k. one_hide_line line x y h.1 k.1) a.0 H H' a.3 (rw same at b.3)

-- If a text can be read as a hide list (a file with one label to hide on each line), then the text has no error
-- (`FirstHideFault`).
pub HideReads-no_fault : (text : List ℕ) (H : List (List ℕ)) (fault : Fault) → HideReads text H →
    FirstHideFault text fault → ⊥
HideReads-no_fault text H fault (lines, l, few, named) bad =
    let size = AllZip-long Hides lines H named in
    FaultFrom-none hides_are_judged 0 (length H) (lines_of text) fault
    (rw l (Steps-hides lines H (length H) named refl (omega arith))) refl bad.first

-- Every text can be read as a hide list (a file with one label to hide on each line) or has an error
-- (`FirstHideFault`).
pub hide_text_judged : (text : List ℕ) → ((H : List (List ℕ)) × HideReads text H)
    ⊎ ((fault : Fault) × FirstHideFault text fault)
hide_text_judged text = elim (FaultFrom-judged hides_are_judged 0 (lines_of text)) [
  | inr (fault, bad) ↦ inr (fault, record { first = bad })
  | inl (after, steps, none) ↦
      let (H, j, named, count, few, e) =
      Steps-lines GoodHideLine Hides MOST_LINES (λ i. i) (λ i line next. (λ h. h, λ h. h)) (lines_of text) 0 after
      (omega arith) steps in
      let size = AllZip-long Hides (lines_of text) H named in
      inl (H, (lines_of text, refl, omega arith, named))
]
