-- These lemmas state how a minimisation or a comparison ends: with its output, with an error in an input, or with a
-- failure. The contract of a source (an object from which an input is read) or of an opener (an object that opens files
-- by their names) may state the contents of an input. The variable `revealed` is the contents that the contract states,
-- or `None` if the contract states no contents.
use Rattle.std.proofs.Common.{◌≡◌, ◌⊎◌, ℕ, Bool, List, ◌++◌, Option, Some, None, IfSome, if◌then◌else◌, inl, inr, ap}
use Rattle.std.proofs.Common.{refl}
use Rattle.std.proofs.{KnownBytes.Consumes-whole, lemmas.Option.IfSome_then}
use Rattle.std.specs.Io.KnownBytes.{Consumes}
use Rattle.lts.specs.Meter.{Counts}
use Rattle.autfmt.specs.{Outcomes.Refuses, Readers.IsTextFault, Written.listed}
use Rattle.autfmt.specs.declared.fault.Fault.{Fault}
use Rattle.autfmt.specs.declared.fault.Fault.TheVariants.{Device, Memory}
use Rattle.autfmt.specs.Outcomes.Refuses.{faulty_text, failed_source, no_memory as refused_memory}
use Rattle.autfmt.proofs.CallerLemmas.{Reads-no_fault}
use Rattle.autbis.specs.{declared.compare.CmpFault.CmpFault, declared.run.Counts.Counts as Sizes, Ends.Contents}
use Rattle.autbis.specs.{Ends.EndsRun, Ends.HasFaultyText, Ends.IsAnswer, Ends.OfText, Ends.Contents.one}
use Rattle.autbis.specs.{Ends.Contents.two, Opened.AreAsRevealed, Reports.ShowsCountsOf, Reports.status_of}
use Rattle.autbis.specs.Runs.{IsFaulty, Request, MinimisationFails, MinimisesTo, Used}
use Rattle.autbis.specs.declared.compare.Side.TheVariants.{First}
use Rattle.autbis.specs.Comparisons.{ComparisonFails, ComparesTo, line_of}
use Rattle.autbis.specs.Comparisons.ComparisonFails.{first_not_read, second_not_read, out_of_memory as no_room}
use Rattle.autbis.specs.Comparisons.ComparisonFails.{not_written as no_line}
use Rattle.autbis.specs.Ends.EndsRun.{answered, faulty, no_memory, lost, cut_short}
use Rattle.autbis.specs.Runs.MinimisationFails.{not_read, out_of_memory, not_written}
use Rattle.autbis.proofs.Runs.{of_all}

-- Suppose that an input cannot be correct (`Good`) and have an error (`Bad`) at the same time. Let `given` be the bytes
-- that were read from a source, which is an object from which an input is read. Suppose that the text that consists of
-- `given` and of all bytes that have not been read yet has an error. If the contract of the source states the whole
-- input (`revealed`), then the input is not correct.
pub revealed_is_faulty : {X : Type 0} {Good : List ℕ → X → Type 0} {Bad : List ℕ → Fault → Type 0} →
    ((text : List ℕ) (x : X) (f : Fault) → Good text x → ¬ Bad text f) → (given : List ℕ)
    (revealed rest : Option (List ℕ)) (fault : Fault) → Consumes revealed rest given →
    IfSome rest (λ more. Bad (given ++ more) fault) → IfSome revealed (λ text. (x : X) → ¬ Good text x)
revealed_is_faulty not_both given None rest fault took first = tt
revealed_is_faulty not_both given (Some text) None fault took first = absurd took
revealed_is_faulty not_both given (Some text) (Some more) fault took first =
    λ x good. not_both text x fault good (rw took first)

-- If an error is neither `Device` nor `Memory`, then its exit status is 2. The proposition `Input fault` states that
-- `fault` is an error in the contents of an input.
pub text_status : (Input : Fault → Type 0) → ¬ Input Device → ¬ Input Memory → (fault : Fault) → Input fault →
    status_of fault ≡ 2
text_status Input device memory Device h = absurd (device h)
text_status Input device memory Memory h = absurd (memory h)
text_status Input device memory _ h = refl

-- `EndsRun` states how a run (a minimisation or a comparison) ended. Suppose that a minimisation succeeded, as
-- `MinimisesTo` states. Then `EndsRun` holds with the exit status 0.
pub ends_minimised : {In Out : Type 0} {asked : Request} {given : List ℕ} {source : Used In} {output : Used Out}
    {at : Counts} {sizes : Sizes} {Lost : Type 0} → Consumes source.before source.after given →
    MinimisesTo asked given source output at sizes →
    EndsRun asked (one source.before) (source.failures ≡ 0) Lost output 0
ends_minimised took ran = answered ran.exhausted.1 (listed ran.to.output)
    (of_all _ _ _ _ took ran.exhausted.0 (ran.to, refl, refl)) ran.written

module _ {Out : Type 0} {asked : Request} {output : Used Out} where
  -- `EndsRun` states how a run (a minimisation or a comparison) ended. Suppose that no system could be read from an
  -- input, that the error `fault` is the reason, and that nothing was written. Then `EndsRun` holds with the exit
  -- status for `fault`.
  ends_unread : {contents : Contents} {Sound Lost : Type 0} {given : List ℕ} (revealed : Option (List ℕ))
      {rest : Option (List ℕ)} {failures : ℕ} {fault : Fault} → Consumes revealed rest given →
      output.new ≡ output.old → (failures ≡ 0 → Sound) → (failures ≡ 1 → Lost) →
      (IfSome revealed (IsFaulty asked.bounds) → HasFaultyText asked.bounds contents) →
      Refuses asked.bounds given rest failures fault → EndsRun asked contents Sound Lost output (status_of fault)
  ends_unread revealed took kept sound loses wrong refused = elim refused [
    | faulty_text zero of_text first ↦ faulty (sound zero) (text_status IsTextFault (λ no. no) (λ no. no) _ of_text)
        (wrong (revealed_is_faulty (Reads-no_fault asked.bounds) _ revealed _ _ took first)) kept
    | failed_source failed device unknown ↦ lost (loses failed) (ap status_of device) kept
    | refused_memory zero memory header ↦ no_memory (sound zero) (ap status_of memory) kept
  ]

  -- `EndsRun` states how a run (a minimisation or a comparison) ended. Suppose that a minimisation failed with the
  -- error `fault`, as `MinimisationFails` states. Then `EndsRun` holds with the exit status for `fault`.
  pub ends_run : {In : Type 0} {given : List ℕ} {source : Used In} {at : Counts} {fault : Fault} →
      Consumes source.before source.after given →
      (output.failures ≡ 0 → output.new ≡ output.old) → MinimisationFails asked given source output at fault →
      EndsRun asked (one source.before) (source.failures ≡ 0) (source.failures ≡ 1) output (status_of fault)
  ends_run took kept fails = elim fails [
    | not_read refused sound fresh ↦ ends_unread _ took (kept sound) (λ z. z) (λ z. z) (λ z. z) refused
    | out_of_memory got memory sound ↦ no_memory got.exhausted.1 (ap status_of memory) (kept sound)
    | not_written got device to broken ↦ cut_short got.exhausted.1 (ap status_of device) (listed to.output) 0
        (of_all _ _ _ _ took got.exhausted.0 (to, refl, refl)) broken
  ]

  module _ {A B : Type 0} {first : List ℕ} {source : Used A} {other : Used B} {at : Counts}
      (took : Consumes source.before source.after first) where
    -- `EndsRun` states how a run (a minimisation or a comparison) ended. Suppose that a comparison succeeded, as
    -- `ComparesTo` states. Then `EndsRun` holds. The exit status is 0 if the two systems are equivalent, and otherwise
    -- 1.
    pub ends_verdict : {same : Bool} {status : ℕ} {Lost : Type 0} → status ≡ (if same then 0 else 1) →
        ComparesTo asked first (source, other) output at same →
        EndsRun asked (two source.before other.before) ((source.failures ≡ 0) × (other.failures ≡ 0)) Lost output status
    ends_verdict {same} is did = let got = did.got in
        answered (got.exhausted.0.1, got.exhausted.1.1) (line_of same)
        (of_all _ _ _ _ took got.exhausted.0.0
        (of_all _ _ _ _ got.took got.exhausted.1.0 (got.both, same, did.verdict, refl, is))) did.written

    -- `EndsRun` states how a run (a minimisation or a comparison) ended. Suppose that a comparison failed with the
    -- error `fault`, as `ComparisonFails` states. Then `EndsRun` holds with the exit status for `fault.fault`.
    pub ends_cmp : {fault : CmpFault} (Unread : Type 0) → (fault.side ≡ First → Unread) →
        (output.failures ≡ 0 → output.new ≡ output.old) →
        ComparisonFails asked first (source, other) output at fault →
        EndsRun asked (two source.before other.before) ((source.failures ≡ 0) × (other.failures ≡ 0))
        (((source.failures ≡ 1) × Unread) ⊎ ((source.failures ≡ 0) × (other.failures ≡ 1))) output
        (status_of fault.fault)
    ends_cmp Unread unread kept fails = elim fails [
      | first_not_read is sound fresh ↦ ends_unread source.before took (kept sound) (λ zero. (zero, is.second_sound))
          (λ failed. inl (failed, unread is.side)) inl is.refused
      | second_not_read is sound fresh ↦ ends_unread other.before is.took (kept sound)
          (λ zero. (is.exhausted.1, zero)) (λ failed. inr (is.exhausted.1, failed))
          (λ wrong. inr (Consumes-whole _ _ _ _ took is.exhausted.0 is.readable, wrong)) is.refused
      | no_room side memory got sound ↦
          no_memory (got.exhausted.0.1, got.exhausted.1.1) (ap status_of memory) (kept sound)
      | no_line side device is ↦ let got = is.got in
          cut_short (got.exhausted.0.1, got.exhausted.1.1) (ap status_of device) (line_of is.same)
          (if is.same then 0 else 1) (of_all _ _ _ _ took got.exhausted.0.0 (of_all _ _ _ _ got.took
          got.exhausted.1.0 (got.both, is.same, is.verdict, refl, refl))) is.written
    ]

-- Suppose that a file was opened, and that the property P holds for the bytes that can be read from the open file. The
-- contract of the opener (an object that opens files by their names) may state the contents of the file. In this case,
-- P holds for the stated contents.
pub revealed_then : (revealed rest : Option (List ℕ)) (P : List ℕ → Type 0) →
    IfSome revealed (λ text. rest ≡ Some text) → IfSome rest P → IfSome revealed P
revealed_then revealed rest P is h = IfSome_then revealed is (λ text same. rw same at h)

-- The contract of the opener (an object that opens files by their names) may state the contents of an input. In this
-- case, the contents are the list `revealed`. Suppose that the property P implies the property Q, and that P holds for
-- the actual contents of the input. If the contract states the contents, then Q holds for the stated contents.
-- Otherwise, Q holds for some text.
of_revealed : (revealed text : Option (List ℕ)) {P Q : List ℕ → Type 0} → ((given : List ℕ) → P given → Q given) →
    IfSome revealed (λ bytes. text ≡ Some bytes) → OfText text P → OfText revealed Q
of_revealed None text follows is (given, _, holds) = (given, tt, follows given holds)
of_revealed (Some bytes) text follows is (given, same, holds) = (given, rw is at same, follows given holds)

-- The contract of the opener (an object that opens files by their names) may state the contents of the inputs. Three
-- facts hold for the stated contents if they hold for the actual contents: that `bytes` is the correct output
-- (`IsAnswer`), that an input is incorrect (`HasFaultyText`), and that a prefix of the line that `--stats` asks for was
-- written (`ShowsCountsOf`).
pub as_revealed : (asked : Request) (revealed contents : Contents) → AreAsRevealed revealed contents →
    ((bytes : List ℕ) (status : ℕ) → IsAnswer asked contents bytes status → IsAnswer asked revealed bytes status)
    × (HasFaultyText asked.bounds contents → HasFaultyText asked.bounds revealed)
    × ((old new : Option (List ℕ)) → ShowsCountsOf asked contents old new → ShowsCountsOf asked revealed old new)
as_revealed asked (one revealed) (one text) is = (
  λ bytes status. of_revealed revealed text (λ given h. h) is,
  revealed_then revealed text _ is,
  λ old new. of_revealed revealed text (λ given h. h) is,
)
as_revealed asked (two revealed more) (two text other) (is, also) = (
  λ bytes status. of_revealed revealed text (λ given. of_revealed more other (λ next h. h) also) is,
  λ wrong. elim wrong [
    | inl first ↦ inl (revealed_then revealed text _ is first)
    | inr (reads, second) ↦ inr (revealed_then revealed text _ is reads, revealed_then more other _ also second)
  ],
  λ old new shown. absurd shown,
)
as_revealed asked (one revealed) (two text other) is = absurd is
as_revealed asked (two revealed more) (one text) is = absurd is

-- `AreAsRevealed` holds if each input has the contents that a contract states for it, if any. This lemma says that this
-- is the case if the stated contents are taken as the actual contents.
pub reveals_itself : (revealed : Option (List ℕ)) → IfSome revealed (λ bytes. revealed ≡ Some bytes)
reveals_itself None = tt
reveals_itself (Some bytes) = refl

-- `EndsRun` states how a run (a minimisation or a comparison) ended. The contract of the opener (an object that opens
-- files by their names) may state the contents of the inputs. If `EndsRun` holds for the actual contents of the inputs,
-- then `EndsRun` holds for the stated contents as well. In addition, the conditions `Sound` (no read has failed) and
-- `Lost` (a read has failed) may be replaced by conditions that follow from them.
pub ends_revealed : {Out : Type 0} {asked : Request} {revealed contents : Contents} {Sound Lost Sound' Lost' : Type 0}
    {output : Used Out} {status : ℕ} → AreAsRevealed revealed contents →
    (Sound → Sound') → (Lost → Lost') → EndsRun asked contents Sound Lost output status →
    EndsRun asked revealed Sound' Lost' output status
ends_revealed {asked = asked} {revealed = revealed} {contents = contents} is sound loses ends =
    let (answer_is, wrong_is, _) = as_revealed asked revealed contents is in
    elim ends [
      | answered zero bytes answer gains ↦ answered (sound zero) bytes (answer_is bytes _ answer) gains
      | faulty zero exit wrong kept ↦ faulty (sound zero) exit (wrong_is wrong) kept
      | no_memory zero exit kept ↦ no_memory (sound zero) exit kept
      | cut_short zero exit bytes wanted answer broken ↦
          cut_short (sound zero) exit bytes wanted (answer_is bytes wanted answer) broken
      | lost failed exit kept ↦ lost (loses failed) exit kept
    ]
