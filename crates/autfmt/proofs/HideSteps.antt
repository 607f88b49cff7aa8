-- The lemmas in this file are about the steps in which a hide list (the labels to hide, one on each line) is read. The
-- lemmas describe the state of the reader after each step, and justify each error that the reader returns.
use Rattle.std.proofs.Common.{◌≡◌, ◌⊎◌, ◌↔◌, ⊎_elim, ℕ, ◌<◌, ◌≤◌, Bool, true, false, List, [], ◌∷◌, ◌++◌, length}
use Rattle.std.proofs.Common.{Option, ◌+◌, Contains, refl, sym, inl, inr, arith}
use Rattle.std.proofs.lemmas.Slice.Zip.{AllZip-long}
use Rattle.std.proofs.lemmas.List.Elements.{Contains-append_left, Contains-push, Contains-push_cases}
use Rattle.std.specs.Io.KnownBytes.{IsAtEnd}
use Rattle.lts.specs.Labels.{Interns}
use Rattle.autfmt.specs.{declared.fault.Fault.Fault, HideLists.Hides, HideLists.FirstHideFault}
use Rattle.autfmt.specs.{Faults.LineFault}
use Rattle.autfmt.specs.{Cutter.Cutting, Cutter.IsPart, HideReadSoFar.HideReadSoFar}
use Rattle.autfmt.specs.declared.fault.Fault.TheVariants.{Device}
use Rattle.autfmt.specs.HideReaders.{IsHideFault, SameLabels, HidesAs}
use Rattle.autfmt.specs.{HideOutcomes.HideRefuses, HideOutcomes.HideRefuses.failed_source}
use Rattle.autfmt.specs.{HideOutcomes.HideRefuses.faulty_text, declared.limits.TheConstants.MOST_LINES}
use Rattle.autfmt.proofs.{FirstFaults.First, FirstFaults.FaultFrom-behind, FirstFaults.FaultFrom-not_known}
use Rattle.autfmt.proofs.{FaultLaws.hides_are_judged, FaultLaws.Steps-hides}
use Rattle.autfmt.proofs.Cutting.{HasCut-end, HasCut-part, LeadsTo}
use Rattle.autfmt.proofs.ReaderSteps.{if_revealed}

-- If the label a is appended to the list H, then the result contains exactly the labels of H and the label a.
pushed : (H : List (List ℕ)) (a b : List ℕ) → Contains (H ++ a ∷ []) b ↔ (Contains H b ⊎ (b ≡ a))
pushed H a b =
    let old = Contains-append_left H (a ∷ []) b in
    let new : b ≡ a → Contains (H ++ a ∷ []) b = λ e. rw e (Contains-push H a) in
    (λ c. ⊎_elim (λ d. inl d) (λ e. inr (sym e)) (Contains-push_cases H a b c), ⊎_elim old new)

-- Suppose that two lists contain the same labels. If the label a is interned in the first list and appended to the
-- second list, then the resulting lists contain the same labels too.
pub SameLabels-add :
    (hidden H : List (List ℕ)) (a : List ℕ) (now : List (List ℕ)) → SameLabels hidden H → Interns hidden a now →
    SameLabels now (H ++ a ∷ [])
SameLabels-add hidden H a now same (inl (known, is)) b =
    let s = same b in let p = pushed H a b in
    let new : b ≡ a → Contains hidden b = λ e. rw e known in rw is (grind (arith, s, new, p))
SameLabels-add hidden H a now same (inr (unknown, is)) b =
    let s = same b in let h = pushed hidden a b in let p = pushed H a b in
    rw is (
      λ c. p.1 (⊎_elim (λ d. inl (s.0 d)) (λ e. inr e) (h.0 c)),
      λ c. h.1 (⊎_elim (λ d. inl (s.1 d)) (λ e. inr e) (p.0 c)),
    )

-- Assume that the reader has read some lines, and then reads the bytes `got` from its source (the object from which the
-- hide list is read).
module _ {given : List ℕ} {old : Cutting} {H hidden : List (List ℕ)} (got : List ℕ)
    (so_far : HideReadSoFar given old H hidden) where
  -- Suppose that a hide list may have as many lines as were read, and that all bytes that were read have been divided
  -- into lines. Then these bytes are a hide list with the labels that were read.
  pub hide_ends : length H ≤ MOST_LINES → old.ahead ++ got ≡ [] → HidesAs (given ++ got) hidden
  hide_ends few none =
      let as_many = AllZip-long Hides so_far.lines H so_far.named in
      let l = HasCut-end given got so_far.lines old so_far.cut none in
      (H, (so_far.lines, l, omega arith, so_far.named), so_far.same)

  -- Suppose that the source (the object from which the hide list is read) fails before the next line has been read to
  -- its end. Then the reader may return `Device`, which is the error of a failed source. The contract allows this error
  -- only if the first error of the hide list still depends on the bytes that may follow. The reason for this is that
  -- the next line may still become too long, or that no further line is allowed and the hide list has no error if it
  -- ends here.
  pub hide_failed : (rest : Option (List ℕ)) (failures : ℕ) → length H ≤ MOST_LINES →
      (length H < MOST_LINES) ⊎ (old.ahead ++ got ≡ []) → failures ≡ 1 →
      (old.over ≡ false) × IsPart (old.ahead ++ got) → HideRefuses (given ++ got) rest failures Device
  hide_failed rest failures few unjudged failed (open_at, part) =
      let c = HasCut-part given got so_far.lines old so_far.cut open_at in
      failed_source failed refl
      (λ f known. FaultFrom-not_known hides_are_judged 0 (length H) (given ++ got) so_far.lines (old.ahead ++ got) c
      (Steps-hides so_far.lines H (length H) so_far.named refl few) part
      (⊎_elim (λ less. inl (length H + 1, λ line long. inl (less, LineFault.too_long refl long)))
      (λ none. inr (none, refl)) unjudged) f (λ more. (known more).first))

  -- Suppose that the reader returns the error `fault`, and that `fault` is the first error of the lines that follow the
  -- lines that have been read. Then `fault` is the first error of the hide list.
  pub hide_refused : {found : ℕ} {over : Bool} {rest : Option (List ℕ)} {failures : ℕ} (fault : Fault) →
      length H ≡ found → found ≤ MOST_LINES → failures ≡ 0 → (over ≡ true → IsAtEnd rest) → IsHideFault fault →
      LeadsTo (given ++ got) so_far.lines over (λ lines. First hides_are_judged found lines fault) →
      HideRefuses (given ++ got) rest failures fault
  hide_refused {found = found} {rest = rest} fault count few sound end kind leads =
      faulty_text sound kind (if_revealed (λ text. FirstHideFault text fault) (given ++ got) rest end (λ more end.
      let (others, l, bad) = leads more end in
      let steps = Steps-hides so_far.lines H found so_far.named (sym count) few in
      record { first = rw l ((FaultFrom-behind hides_are_judged 0 found so_far.lines others fault steps).1 bad) }))
