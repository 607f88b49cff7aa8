-- These definitions state how a minimisation or a comparison ends, and with which exit status.
use Rattle.std.specs.Prelude.{◌≡◌, ◌⊎◌, ℕ, Bool, List, Option, IfSome, if◌then◌else◌}
use Rattle.autfmt.specs.Bounds.{Bounds}
use Rattle.autfmt.specs.Written.{listed}
use Rattle.autbis.specs.Comparisons.{IsVerdict, ReadBoth, line_of}
use Rattle.autbis.specs.Runs.{BreaksOff, Gains, IsFaulty, IsReadable, MinimisedText, Request, Used}

-- `OfText revealed P` states that the property P holds for the contents of an input. The contract of the source (the
-- object from which the input is read) may state these contents. In this case, the contents are the list `revealed`,
-- and P must hold for this list. Otherwise, `revealed` is `None`, and P must hold for at least one text.
abbrev pub OfText : Option (List ℕ) → (List ℕ → Type 0) → Type 0
OfText revealed P = (text : List ℕ) × IfSome revealed (λ bytes. bytes ≡ text) × P text

-- A value of the type `Contents` consists of the contents of one input that is minimised, or of two inputs that are
-- compared. The contents of an input are `None` if the contract of its source (the object from which the input is read)
-- does not state them.
pub data Contents : Type 0 where
  one : Option (List ℕ) → Contents
  two : (first second : Option (List ℕ)) → Contents

-- `IsAnswer asked contents bytes status` holds if the list `bytes` is the correct output for the inputs, and `status`
-- is the correct exit status. For one input, the output is the text of the minimised system, and the exit status is 0.
-- For two inputs, the output is the line of the verdict (`TRUE` or `FALSE`). For two inputs, the exit status is 0 if
-- the two systems are equivalent, and 1 otherwise.
abbrev pub IsAnswer : Request → Contents → List ℕ → ℕ → Type 0
IsAnswer asked (one text) bytes status =
    OfText text (λ given. (to : MinimisedText asked given) × (bytes ≡ listed to.output) × (status ≡ 0))
IsAnswer asked (two first second) bytes status = OfText first (λ given. OfText second (λ other.
    (both : ReadBoth asked.bounds given other) × (same : Bool) × IsVerdict asked both same
    × (bytes ≡ line_of same) × (status ≡ (if same then 0 else 1))))

-- `HasFaultyText` holds if an input is incorrect. The second of two inputs counts as incorrect only if the first input
-- is correct, because otherwise the second input is not read. If the contract of a source (an object from which an
-- input is read) does not state the contents of its input, this input counts both as correct and as incorrect.
abbrev pub HasFaultyText : Bounds → Contents → Type 0
HasFaultyText bounds (one text) = IfSome text (IsFaulty bounds)
HasFaultyText bounds (two first second) =
    IfSome first (IsFaulty bounds) ⊎ (IfSome first (IsReadable bounds) × IfSome second (IsFaulty bounds))

-- `EndsRun` states how a run (a minimisation or a comparison) ended, and with which exit status. A source is an object
-- from which an input is read, and the sink is the object to which the output is written. The parameter `Sound` is the
-- condition that no source has failed, and `Lost` is the condition that a source has failed. If a source has failed,
-- the sink is unchanged, and the exit status is 5. If no source has failed, the run ended in one of four ways. First,
-- the whole output may have been written, with the exit status 0 or 1 (`IsAnswer`). Second, an input may be incorrect.
-- In this case, the sink is unchanged, and the exit status is 2. Third, memory may have run out. In this case, the sink
-- is unchanged, and the exit status is 4. Fourth, the sink may have failed after a prefix of the output had been
-- written. In this case, the exit status is 5.
pub data EndsRun {Out : Type 0}
    (asked : Request) (contents : Contents) (Sound Lost : Type 0) (output : Used Out) (status : ℕ) : Type 0 where
  answered : Sound → (bytes : List ℕ) → IsAnswer asked contents bytes status → Gains output bytes →
      EndsRun asked contents Sound Lost output status
  faulty : Sound → status ≡ 2 → HasFaultyText asked.bounds contents → output.new ≡ output.old →
      EndsRun asked contents Sound Lost output status
  no_memory : Sound → status ≡ 4 → output.new ≡ output.old → EndsRun asked contents Sound Lost output status
  cut_short : Sound → status ≡ 5 → (bytes : List ℕ) → (wanted : ℕ) → IsAnswer asked contents bytes wanted →
      BreaksOff output bytes → EndsRun asked contents Sound Lost output status
  lost : Lost → status ≡ 5 → output.new ≡ output.old → EndsRun asked contents Sound Lost output status
