-- These definitions state which results the function that reads a system may return. The results depend on the bytes
-- that were read from the source (the object from which the input is read).
use Rattle.std.specs.Prelude.{◌≡◌, ℕ, ◌<◌, ◌≤◌, List, ◌++◌, length, Option, IfSome, Result, MatchResult}
use Rattle.std.specs.Io.KnownBytes.{Consumes, IsAtEnd}
use Rattle.lts.specs.Lts.{Grouped, IsUsedLabel}
use Rattle.autfmt.specs.declared.fault.Fault.{Fault}
use Rattle.autfmt.specs.declared.fault.Fault.TheVariants.{Device, Memory}
use Rattle.autfmt.specs.Bounds.{Bounds}
use Rattle.autfmt.specs.Faults.{FirstFault, JudgedFault}
use Rattle.autfmt.specs.Readers.{IsTextFault, HasGoodHeader, ReadsAs}

-- `Takes old new Good Bad result` holds if a call has read some bytes from a source (the object from which the input is
-- read), and `result` is a correct result of this call. The arguments `old` and `new` are the bytes that are still to
-- be read from the source before and after the call, or `None` if these bytes are not known. If the result is `Ok`,
-- `Good` must hold for the bytes that were read and for the returned value. If the result is an error, `Bad` must hold
-- for the bytes that were read and for the error.
pub record Takes {T E : Type 0} (old new : Option (List ℕ)) (Good : List ℕ → T → Type 0)
    (Bad : List ℕ → E → Type 0) (result : Result T E) : Type 0 where
  pub given : List ℕ
  pub took : Consumes old new given
  pub outcome : MatchResult result (Good given) (Bad given)

-- `IsWithin bounds s` holds if the system s has at most as many states and at most as many transitions as the limits
-- `bounds` allow.
pub record IsWithin (bounds : Bounds) (s : Grouped) : Type 0 where
  pub states : s.states ≤ bounds.states
  pub transitions : length s.places ≤ bounds.transitions

-- `ReadsTo bounds H given rest failures s` holds if all four of the following conditions hold. First, the bytes `given`
-- are a whole input that denotes a system within the limits `bounds`, and s is this system with the labels in the list
-- H hidden. Second, each label in the label table of s is the label of some transition. Third, the source (the object
-- from which the input is read) is at its end: no bytes are left in `rest`. Fourth, the source has not failed: the
-- number `failures` of times that it has failed so far is 0.
pub record ReadsTo (bounds : Bounds) (H : List (List ℕ)) (given : List ℕ) (rest : Option (List ℕ)) (failures : ℕ)
    (s : Grouped) : Type 0 where
  pub read : ReadsAs bounds given H s
  pub as_many : length s.places ≡ length read.0.transitions
  pub within : IsWithin bounds s
  pub carried : (k : ℕ) → k < length s.labels → IsUsedLabel s k
  pub at_end : IsAtEnd rest
  pub sound : failures ≡ 0

-- `Refuses bounds given rest failures fault` states why the function that reads a system returned the error `fault`.
-- The list `given` contains the bytes that were read. The argument `rest` contains the bytes that are still to be read
-- from the source (the object from which the input is read), or is `None` if these bytes are not known. There are three
-- possible reasons. The first reason is an error in the contents of the input (`IsTextFault`). In this case, if the
-- bytes that are still to be read are known, `fault` must be the first error of the whole input. The second reason is
-- that the source has failed, so that `fault` is `Device`. In this case, the bytes `given` must not be enough to show
-- which error is the first error of the input (`JudgedFault`). The third reason is that an allocation has failed, so
-- that `fault` is `Memory`. In this case, if the bytes that are still to be read are known, line 1 of the input must be
-- a correct header.
pub data Refuses (bounds : Bounds) (given : List ℕ) (rest : Option (List ℕ)) (failures : ℕ)
    (fault : Fault) : Type 0 where
  faulty_text : failures ≡ 0 → IsTextFault fault → IfSome rest (λ more. FirstFault bounds (given ++ more) fault) →
      Refuses bounds given rest failures fault
  failed_source : failures ≡ 1 → fault ≡ Device → ((f : Fault) → ¬ JudgedFault bounds given f) →
      Refuses bounds given rest failures fault
  no_memory : failures ≡ 0 → fault ≡ Memory → IfSome rest (λ more. HasGoodHeader bounds (given ++ more)) →
      Refuses bounds given rest failures fault

-- `AnswersRead bounds H old new failures result` holds if `result` is a correct result of reading a system from the
-- source (the object from which the input is read). The arguments `old` and `new` are the bytes that are still to be
-- read from the source before and after the call, or `None` if these bytes are not known. The argument `failures` is
-- the number of times that the source has failed until the end of the call. If the call succeeded, `ReadsTo` must hold
-- for the system that it returned. If the call failed, `Refuses` must hold for the error.
abbrev pub AnswersRead : Bounds → List (List ℕ) → Option (List ℕ) → Option (List ℕ) → ℕ → Result Grouped Fault → Type 0
AnswersRead bounds H old new failures result =
    Takes old new (λ given. ReadsTo bounds H given new failures) (λ given. Refuses bounds given new failures) result
