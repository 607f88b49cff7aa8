-- These definitions describe the comparison of two inputs. The definitions state when the verdict of a comparison
-- (whether the two systems are equivalent) is correct, and why a comparison may fail. A source is an object from which
-- an input is read, and a sink is an object to which an output is written.
use Rattle.std.specs.Prelude.{◌≡◌, ◌↔◌, ℕ, ◌+◌, ◌*◌, Bool, true, false, IsTrue, List, [], ◌∷◌, ◌++◌, length, codes}
use Rattle.std.specs.Io.KnownBytes.{Consumes}
use Rattle.theory.specs.System.{System, Hide}
use Rattle.theory.specs.Bisimulation.{Equivalent}
use Rattle.theory.specs.Blocks.{Turns}
use Rattle.theory.specs.Union.{union_of}
use Rattle.lts.specs.Meter.{Counts, IsFresh}
use Rattle.quotient.specs.Visits.{StaysWithin, union_passes}
use Rattle.autfmt.specs.Bounds.{Bounds}
use Rattle.autfmt.specs.Texts.{Reads}
use Rattle.autfmt.specs.declared.fault.Fault.TheVariants.{Device, Memory}
use Rattle.autfmt.specs.Outcomes.{Refuses}
use Rattle.autbis.specs.Runs.{BreaksOff, Gains, IsExhausted, IsReadable, Request, Used}
use Rattle.autbis.specs.declared.compare.CmpFault.{CmpFault}
use Rattle.autbis.specs.declared.compare.Side.TheVariants.{First, Second, Run}

-- `line_of` is the line that is written for a verdict. The line is `TRUE` if the two systems are equivalent, and
-- `FALSE` otherwise, followed by a line feed.
abbrev pub line_of : Bool → List ℕ
line_of true = codes "TRUE" ++ 10 ∷ []
line_of false = codes "FALSE" ++ 10 ∷ []

-- `ReadBoth bounds first second` holds if `first` and `second` are correct inputs within the size limits `bounds`. The
-- field `one` is the system that the input `first` describes, and `other` is the system that the input `second`
-- describes.
pub record ReadBoth (bounds : Bounds) (first second : List ℕ) : Type 0 where
  pub one : System
  pub other : System
  pub reads_first : Reads bounds first one
  pub reads_second : Reads bounds second other

-- `states_of` is the number of states that two systems have together.
abbrev pub states_of : {bounds : Bounds} {first second : List ℕ} → ReadBoth bounds first second → ℕ
states_of both = both.one.states + both.other.states

-- `transitions_of` is the number of transitions that two systems have together.
abbrev pub transitions_of : {bounds : Bounds} {first second : List ℕ} → ReadBoth bounds first second → ℕ
transitions_of both = length both.one.transitions + length both.other.transitions

-- `IsVerdict asked both same` holds if `same` is the correct verdict of a comparison. The verdict must be true if and
-- only if the two systems are equivalent after the labels to hide have been hidden in both systems.
abbrev pub IsVerdict : (asked : Request) {first second : List ℕ} → ReadBoth asked.bounds first second → Bool → Type 0
IsVerdict asked both same =
    IsTrue same ↔ Equivalent asked.relation (Hide asked.hidden both.one) (Hide asked.hidden both.other)

-- `CountsUnion` holds if a meter has counted the rounds and the visits (reads of transitions) of a whole comparison of
-- two systems. Let r be the number of rounds that the meter has counted, and let m be the number of transitions of both
-- systems together. All three of the following conditions must hold. First, after the labels to hide have been hidden
-- in both systems, the refinement of their union takes r rounds. Second, r is at most the number of states of both
-- systems together. Third, the meter has counted exactly (r + 1) * m visits.
pub record CountsUnion (asked : Request) {first second : List ℕ} (both : ReadBoth asked.bounds first second)
    (at : Counts) : Type 0 where
  pub turns : Turns asked.relation (union_of (Hide asked.hidden both.one) (Hide asked.hidden both.other)) at.rounds
  pub keeps :
      StaysWithin (states_of both) (transitions_of both) union_passes at
      ((at.rounds + union_passes) * transitions_of both)

-- `HasReadBoth` holds if all three of the following conditions hold. First, both inputs have been read to their ends,
-- and neither source (an object from which an input is read) has failed. Second, both inputs are correct. Third, the
-- numbers of rounds and visits (reads of transitions) that the meter has counted are within the bounds for a comparison
-- of the two systems. The list `first` contains the bytes of the first input, and the field `second` contains the bytes
-- of the second input.
pub record HasReadBoth {A B : Type 0} (bounds : Bounds) (first : List ℕ) (sources : Used A × Used B)
    (at : Counts) : Type 0 where
  pub second : List ℕ
  pub took : Consumes sources.1.before sources.1.after second
  pub exhausted : IsExhausted sources.0 × IsExhausted sources.1
  pub both : ReadBoth bounds first second
  pub keeps : StaysWithin (states_of both) (transitions_of both) union_passes at 0

-- `ComparesTo` holds if a comparison has succeeded with the verdict `same` (whether the systems are equivalent). All
-- four of the following conditions must hold. First, both inputs have been read. Second, the verdict is correct. Third,
-- the line of the verdict (`TRUE` or `FALSE`) has been written to the sink, which is the object to which the output is
-- written. Fourth, the meter has counted the rounds and the visits (reads of transitions) of the whole comparison.
pub record ComparesTo {A B Out : Type 0} (asked : Request) (first : List ℕ) (sources : Used A × Used B)
    (sink : Used Out) (at : Counts) (same : Bool) : Type 0 where
  pub got : HasReadBoth asked.bounds first sources at
  pub verdict : IsVerdict asked got.both same
  pub written : Gains sink (line_of same)
  pub counts : CountsUnion asked got.both at

-- `FirstReadFails` holds if a comparison failed because no system could be read from the first source, which is the
-- object from which the first input is read. The error `fault` must state the reason, and must state that the error
-- occurred in the first input. The second source must not have failed.
pub record FirstReadFails {A B : Type 0} (bounds : Bounds) (first : List ℕ) (sources : Used A × Used B)
    (fault : CmpFault) : Type 0 where
  pub side : fault.side ≡ First
  pub refused : Refuses bounds first sources.0.after sources.0.failures fault.fault
  pub second_sound : sources.1.failures ≡ 0

-- `SecondReadFails` holds if a comparison failed because no system could be read from the second source, which is the
-- object from which the second input is read. The error `fault` must state the reason, and must state that the error
-- occurred in the second input. The first input must be correct, and must have been read to its end without a failure
-- of its source.
pub record SecondReadFails {A B : Type 0} (bounds : Bounds) (first : List ℕ) (sources : Used A × Used B)
    (fault : CmpFault) : Type 0 where
  pub side : fault.side ≡ Second
  pub exhausted : IsExhausted sources.0
  pub readable : IsReadable bounds first
  pub second : List ℕ
  pub took : Consumes sources.1.before sources.1.after second
  pub refused : Refuses bounds second sources.1.after sources.1.failures fault.fault

-- `VerdictCutShort` holds if both inputs were read, and the sink (the object to which the output is written) failed
-- while the line of the verdict (`TRUE` or `FALSE`) was written. The bytes that were written to the sink must be a
-- prefix of the line of the correct verdict.
pub record VerdictCutShort {A B Out : Type 0} (asked : Request) (first : List ℕ) (sources : Used A × Used B)
    (sink : Used Out) (at : Counts) : Type 0 where
  pub got : HasReadBoth asked.bounds first sources at
  pub same : Bool
  pub verdict : IsVerdict asked got.both same
  pub written : BreaksOff sink (line_of same)

-- `ComparisonFails` states why a comparison failed. A source is an object from which an input is read, and the sink is
-- the object to which the output is written. There are four possible reasons. First, no system could be read from the
-- first source. Second, no system could be read from the second source. Third, memory ran out after both inputs had
-- been read. Fourth, the sink failed while the verdict was written. The list `first` contains the bytes that were read
-- from the first source.
pub data ComparisonFails {A B Out : Type 0} (asked : Request) (first : List ℕ) (sources : Used A × Used B)
    (sink : Used Out)
    (at : Counts) (fault : CmpFault) : Type 0 where
  first_not_read : FirstReadFails asked.bounds first sources fault → sink.failures ≡ 0 → IsFresh at →
      ComparisonFails asked first sources sink at fault
  second_not_read : SecondReadFails asked.bounds first sources fault → sink.failures ≡ 0 → IsFresh at →
      ComparisonFails asked first sources sink at fault
  out_of_memory : fault.side ≡ Run → fault.fault ≡ Memory → HasReadBoth asked.bounds first sources at →
      sink.failures ≡ 0 → ComparisonFails asked first sources sink at fault
  not_written : fault.side ≡ Run → fault.fault ≡ Device → VerdictCutShort asked first sources sink at →
      ComparisonFails asked first sources sink at fault
