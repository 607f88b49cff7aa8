-- The lemmas in this file are about the steps in which a system is read. The lemmas describe the state of the reader
-- after each step, and justify each error that the reader returns. The last lemmas say that the system that is built
-- from the stored transitions is the system that the input denotes.
use Rattle.std.proofs.Common.{ℕ, List, ◌++◌, Option, Result, MatchResult, arith, ◌≡◌, ◌⊎◌, ⊎_elim, ◌<◌, ◌≤◌, true}
use Rattle.std.proofs.Common.{[], ◌∷◌, length, Bool, None, Some, IfSome, Ok, Err, IfOk, IfErr, IsErrAnd, refl, ◌∙◌, ap}
use Rattle.std.proofs.Common.{◌+◌, false, inl, inr, rules, append_assoc}
use Rattle.std.specs.Io.KnownBytes.{Consumes, IsAtEnd}
use Rattle.std.proofs.KnownBytes.{Consumes-trans}
use Rattle.std.proofs.lemmas.{Slice.Zip.all_zipped_more, Result.err_from_is_err_and}
use Rattle.std.proofs.lemmas.Bool.{cases_lt}
use Rattle.std.proofs.lemmas.List.Sorted.{length_permutation, Contains-permutation}
use Rattle.theory.specs.System.{Transition, IsAmong}
use Rattle.lts.specs.Lts.{Grouped, IsBuilt}
use Rattle.autfmt.specs.{declared.fault.Fault.Fault, declared.held.Held.Held, declared.judge.Promise.Promise}
use Rattle.autfmt.specs.{Bounds.Bounds, Grammar.TransitionLine, Readers.IsTextFault, Readers.HasGoodHeader}
use Rattle.autfmt.specs.Outcomes.{Takes, Refuses, ReadsTo}
use Rattle.autfmt.specs.declared.cutter.Step.{Step}
use Rattle.autfmt.specs.declared.cutter.Step.TheVariants.{Line}
use Rattle.autfmt.specs.declared.fault.Fault.TheVariants.{MissingEdges, Device, Memory}
use Rattle.autfmt.specs.Texts.{lines_of, IsShort, GoodHeader}
use Rattle.autfmt.specs.{Faults.LineFault, Faults.HeaderFault, Faults.end_fault, Faults.FirstFault}
use Rattle.autfmt.specs.{Cutter.Cutting, Cutter.HasCut, Cutter.IsPart, Gathering.Makes}
use Rattle.autfmt.specs.ReadSoFar.{ReadSoFar, HeldSoFar, ReadsOneMore, HoldsText}
use Rattle.autfmt.specs.Outcomes.Refuses.{no_memory, failed_source, faulty_text}
use Rattle.autfmt.proofs.{FirstFaults.First, FirstFaults.FaultFrom-behind, FirstFaults.FaultFrom-not_known}
use Rattle.autfmt.proofs.{FaultLaws.texts_are_judged, FaultLaws.Steps-text}
use Rattle.autfmt.proofs.Holding.{Holds-length}
use Rattle.autfmt.proofs.Cutting.{HasCut-line, HasCut-part, Follows, LeadsTo, after}

-- Suppose that two calls read bytes from a source (an object from which an input is read), one call after the other.
-- Suppose also that a result satisfies the conditions of `Takes` for the list of all bytes that these two calls have
-- read. Then `Takes` holds for the result and the sequence of the two calls.
pub takes_more : {T E : Type 0} {Good : List ℕ → T → Type 0} {Bad : List ℕ → E → Type 0} {result : Result T E}
    {old new : Option (List ℕ)} (between : Option (List ℕ)) (before bytes : List ℕ) → Consumes old between before →
    Consumes between new bytes →
    MatchResult result (Good (before ++ bytes)) (Bad (before ++ bytes)) → Takes old new Good Bad result
takes_more between before bytes first next outcome = grind (arith, Consumes-trans)

-- Suppose that a call returns the error e, and that the property Q holds for e. Then `MatchResult result P Q` holds for
-- the result of the call, which states that a value in the result has the property P, and that an error has the
-- property Q.
pub returns_error : {T E : Type 0} {e : E} (result : Result T E) (P : T → Type 0) (Q : E → Type 0) →
    IsErrAnd result (λ error. error ≡ e) → Q e → MatchResult result P Q
returns_error result P Q error holds = let exit = err_from_is_err_and result error in rw (exit.1, exit.2) holds

-- A source is the object from which the input is read. Suppose that every input that begins with the bytes `given` has
-- a certain property. If the contract of the source states which bytes are still to be read from it, then the whole
-- input has this property. If the source has ended (`over`), only the input `given` must have the property.
pub if_revealed : {over : Bool} (P : List ℕ → Type 0) (given : List ℕ) (rest : Option (List ℕ)) →
    (over ≡ true → IsAtEnd rest) → ((more : List ℕ) → (over ≡ true → more ≡ []) → P (given ++ more)) →
    IfSome rest (λ more. P (given ++ more))
if_revealed P given None end holds = tt
if_revealed P given (Some more) end holds = holds more end

-- `fresh` is the state of a line splitter (`Cutter`) that has not taken any bytes.
abbrev pub fresh : Cutting
fresh = record { line = []; ahead = []; over = false }

-- Assume that line 1 is read by a line splitter that has not taken any bytes before.
module _ (bounds : Bounds) (got : List ℕ) (rest : Option (List ℕ)) (failures : ℕ) (now : Cutting)
    (sound : failures ≡ 0) (end : now.over ≡ true → IsAtEnd rest) where
  -- If the reader returns the error of line 1, or the error that there is no line, then this is the first error of the
  -- input.
  pub header_refused : (step : Step) (fault : Fault) → Makes false got step now →
      Follows step now (λ lines. First (texts_are_judged bounds) None lines fault) → IsTextFault fault →
      Refuses bounds got rest failures fault
  header_refused step fault made follows kind =
      let leads = after [] got [] fresh (λ more end. refl) step now
      (λ lines. First (texts_are_judged bounds) None lines fault) made follows in
      faulty_text sound kind (if_revealed (λ text. FirstFault bounds text fault) got rest end (λ more end.
      let (lines, l, bad) = leads more end in record { first = rw l bad }))

  -- If the line splitter has split off line 1, then the result of checking this line is correct: either line 1 is a
  -- correct header, or the result is the first error of the input.
  pub header_answer : (result : Result Promise Fault) → Makes false got Line now →
      IfOk result (λ p. GoodHeader bounds now.line p.first p.transitions p.states) →
      IfErr result (λ f. HeaderFault bounds now.line f) → IfErr result IsTextFault →
      MatchResult result (λ p. ReadSoFar bounds got now p []) (Refuses bounds got rest failures)
  header_answer (Ok p) made good bad kind = record {
    header = now.line;
    lines = [];
    cut = HasCut-line [] got [] fresh (λ more end. refl) now made;
    good = good;
    spelled = tt;
  }
  header_answer (Err fault) made good bad kind = header_refused Line fault made (λ others. inl bad) kind

-- Suppose that a correct header has been read, that any number of lines has been read after it, and that an allocation
-- then fails. Then the reader may return `Memory`.
pub no_memory_behind :
    {bounds : Bounds} {given header : List ℕ} {f m n : ℕ} {rest : Option (List ℕ)} {failures : ℕ}
    (lines : List (List ℕ)) (at : Cutting) → HasCut given (header ∷ lines) at → GoodHeader bounds header f m n →
    failures ≡ 0 → (at.over ≡ true → IsAtEnd rest) → Refuses bounds given rest failures Memory
no_memory_behind {bounds} {given} {header} {f} {m} {n} {rest} lines at cut good sound end =
    no_memory sound refl (if_revealed (HasGoodHeader bounds) given rest end (λ more end.
    (header, lines ++ lines_of (at.ahead ++ more), f, m, n, cut more end, good)))

-- Assume that the reader has read some lines, and then reads the bytes `got` from its source (the object from which the
-- input is read).
module _ {bounds : Bounds} {given : List ℕ} {old : Cutting} {p : Promise} {es : List Transition}
    (got : List ℕ) (so_far : ReadSoFar bounds given old p es) where
  abbrev before : List (List ℕ)
  before = so_far.header ∷ so_far.lines

  -- Suppose that the source (the object from which the input is read) fails before the next line has been read to its
  -- end. Then the reader may return `Device`, which is the error of a failed source. The contract allows this error
  -- only if the first error of the input still depends on the bytes that may follow. The reason for this is that the
  -- next line may still become too long, or that all transitions have been read and the input has no error if it ends
  -- here.
  pub transition_failed : (rest : Option (List ℕ)) (failures : ℕ) → length es ≤ p.transitions →
      (length es < p.transitions) ⊎ (old.ahead ++ got ≡ []) → failures ≡ 1 →
      (old.over ≡ false) × IsPart (old.ahead ++ got) → Refuses bounds (given ++ got) rest failures Device
  transition_failed rest failures few unjudged failed (open_at, part) =
      let c = HasCut-part given got before old so_far.cut open_at in
      failed_source failed refl
      (λ f known. FaultFrom-not_known (texts_are_judged bounds) None _ (given ++ got) before (old.ahead ++ got) c
      (Steps-text so_far.lines es (length es) so_far.good so_far.spelled refl few) part
      (⊎_elim (λ less. inl (length es + 2, λ line long. inl (less, LineFault.too_long refl long)))
      (λ full. inr (⊎_elim (λ less. absurd (omega arith)) (λ none. none) unjudged, grind arith))
      (cases_lt (length es) p.transitions)) f (λ more. (known more).first))

  -- Suppose that the next line denotes a transition e, and that the source and the target of e are states of the
  -- system. Then the transitions that have been read are the transitions before this line and e.
  pub transition_good : (line : List ℕ) (now : Cutting) (e : Transition) →
      HasCut (given ++ got) (before ++ line ∷ []) now → IsShort line → TransitionLine line e.source e.label e.target →
      IsAmong p.states e → ReadSoFar bounds (given ++ got) now p (es ++ e ∷ [])
  transition_good line now e cut short spelled among = record {
    header = so_far.header;
    lines = so_far.lines ++ line ∷ [];
    cut = cut;
    good = so_far.good;
    spelled = grind (arith, all_zipped_more, p.states, so_far.lines, line, so_far.spelled);
  }

  -- Suppose that the reader returns the error `fault`, and that `fault` is the first error of the lines that follow the
  -- lines that have been read. Then `fault` is the first error of the input.
  pub transition_refused : {found : ℕ} {over : Bool} {rest : Option (List ℕ)} {failures : ℕ} (fault : Fault) →
      found ≡ length es → found ≤ p.transitions → failures ≡ 0 → (over ≡ true → IsAtEnd rest) → IsTextFault fault →
      LeadsTo (given ++ got) before over
      (λ lines. First (texts_are_judged bounds) (Some (p.transitions, p.states, found)) lines fault) →
      Refuses bounds (given ++ got) rest failures fault
  transition_refused {found = found} {rest = rest} fault count few sound end kind leads =
      faulty_text sound kind (if_revealed (λ text. FirstFault bounds text fault) (given ++ got) rest end (λ more end.
      let (others, l, bad) = leads more end in
      let steps = Steps-text so_far.lines es found so_far.good so_far.spelled count few in
      record { first = rw l ((FaultFrom-behind (texts_are_judged bounds) None _ before others fault steps).1 bad) }))

-- If an input ends before the last transition that its header declares, then its error is that transitions are missing.
pub end_fault-missing : (m n found : ℕ) → found < m → end_fault (Some (m, n, found)) ≡ Some (MissingEdges found)
end_fault-missing m n found less = grind arith

-- Suppose that transitions have been read from the bytes `before`, and that one more transition has then been read from
-- the bytes `line`. Then all these transitions have been read from the bytes `before` followed by the bytes `line`.
pub HeldSoFar-push :
    (H : List (List ℕ)) (p : Promise) (old at now : Cutting) (held_at held : Held) (before line : List ℕ) →
    ((bounds : Bounds) (given : List ℕ) → ReadSoFar bounds given old p [] →
    (es : List Transition) × HeldSoFar bounds H (given ++ before) p (at, held_at) es) →
    ReadsOneMore H p line (at, held_at) (now, held) →
    (bounds : Bounds) (given : List ℕ) → ReadSoFar bounds given old p [] →
    (es : List Transition) × HeldSoFar bounds H (given ++ (before ++ line)) p (now, held) es
HeldSoFar-push H p old at now held_at held before line so_far step bounds given standing =
    let (es, then) = so_far bounds given standing in
    let (e, next) = step bounds (given ++ before) es then in
    (es ++ e ∷ [], rw (← append_assoc given before line) next)

-- ---- The result of reading a system

-- Assume that the bytes `got` were read and stored as triples, and that the system s was built from these triples.
module _ (bounds : Bounds) (H : List (List ℕ)) (got : List ℕ) (p : Promise) (held : Held) (s : Grouped)
    (text : HoldsText bounds H got p held) (made : IsBuilt p.first p.states held.labels held.transitions s) where
  as_many : length s.places ≡ length text.0
  as_many = length_permutation held.transitions s.places made.grouping.same ∙ Holds-length H p.states held text.0 text.2

  pub reads_built : (rest : Option (List ℕ)) (failures : ℕ) → IsAtEnd rest → failures ≡ 0 →
      ReadsTo bounds H got rest failures s
  reads_built rest failures end sound = record {
    read = search rules;
    as_many = as_many;
    within = grind (arith, made.states, text.1.good.states, as_many, text.1.good.transitions);
    carried = λ k below.
        let (e, among, number) = text.2.carried k (omega (arith, ap length made.labels)) in
        (e, Contains-permutation held.transitions s.places e made.grouping.same among, number);
    at_end = end;
    sound = sound;
  }
