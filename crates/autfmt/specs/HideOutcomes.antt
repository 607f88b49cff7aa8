-- These definitions state which results the function that reads a hide list (the labels to hide) may return. The
-- results depend on the bytes that were read from the source (the object from which the hide list is read).
use Rattle.std.specs.Prelude.{◌≡◌, ℕ, List, ◌++◌, Option, IfSome, Result}
use Rattle.std.specs.Io.KnownBytes.{IsAtEnd}
use Rattle.autfmt.specs.declared.fault.Fault.{Fault}
use Rattle.autfmt.specs.declared.fault.Fault.TheVariants.{Device, Memory}
use Rattle.autfmt.specs.HideLists.{FirstHideFault, JudgedHideFault}
use Rattle.autfmt.specs.HideReaders.{IsHideFault, HidesAs}
use Rattle.autfmt.specs.Outcomes.{Takes}

-- `HideReadsTo given rest failures hidden` holds if all three of the following conditions hold. First, the bytes
-- `given` are a whole hide list (the labels to hide), and the list `hidden` contains the labels of this hide list.
-- Second, the source (the object from which the hide list is read) is at its end: no bytes are left in `rest`. Third,
-- the source has not failed: the number `failures` of times that it has failed so far is 0.
pub record HideReadsTo (given : List ℕ) (rest : Option (List ℕ)) (failures : ℕ) (hidden : List (List ℕ)) : Type 0 where
  pub read : HidesAs given hidden
  pub at_end : IsAtEnd rest
  pub sound : failures ≡ 0

-- `HideRefuses given rest failures fault` states why the function that reads a hide list (the labels to hide) returned
-- the error `fault`. The list `given` contains the bytes that were read. The argument `rest` contains the bytes that
-- are still to be read from the source (the object from which the hide list is read), or is `None` if these bytes are
-- not known. There are three possible reasons. The first reason is an error in the contents of the hide list
-- (`IsHideFault`). In this case, if the bytes that are still to be read are known, `fault` must be the first error of
-- the whole hide list. The second reason is that the source has failed, so that `fault` is `Device`. In this case, the
-- bytes `given` must not be enough to show which error is the first error of the hide list (`JudgedHideFault`). The
-- third reason is that an allocation has failed, so that `fault` is `Memory`.
pub data HideRefuses (given : List ℕ) (rest : Option (List ℕ)) (failures : ℕ) (fault : Fault) : Type 0 where
  faulty_text : failures ≡ 0 → IsHideFault fault → IfSome rest (λ more. FirstHideFault (given ++ more) fault) →
      HideRefuses given rest failures fault
  failed_source : failures ≡ 1 → fault ≡ Device → ((f : Fault) → ¬ JudgedHideFault given f) →
      HideRefuses given rest failures fault
  no_memory : failures ≡ 0 → fault ≡ Memory → HideRefuses given rest failures fault

-- `HideAnswers old new failures result` holds if `result` is a correct result of reading a hide list from the source
-- (the object from which the hide list is read). The arguments `old` and `new` are the bytes that are still to be read
-- from the source before and after the call, or `None` if these bytes are not known. The argument `failures` is the
-- number of times that the source has failed until the end of the call. If the call succeeded, `HideReadsTo` must hold
-- for the labels that it returned. If the call failed, `HideRefuses` must hold for the error.
abbrev pub HideAnswers : Option (List ℕ) → Option (List ℕ) → ℕ → Result (List (List ℕ)) Fault → Type 0
HideAnswers old new failures result =
    Takes old new (λ given. HideReadsTo given new failures) (λ given. HideRefuses given new failures) result
