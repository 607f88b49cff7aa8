-- These definitions describe the minimisation of one input: which output is written for the system that is read, and
-- why the minimisation may fail.
use Rattle.std.specs.Prelude.{◌≡◌, ℕ, ◌*◌, ◌≤◌, List, length, Option}
use Rattle.std.specs.List.Sorted.{IsSorted}
use Rattle.std.specs.Io.KnownBytes.{Appends, IsAtEnd}
use Rattle.theory.specs.System.{System, IsSystem, Hide}
use Rattle.theory.specs.Bisimulation.{Bisimilar, Equivalent}
use Rattle.theory.specs.declared.relation.Relation.{Relation}
use Rattle.theory.specs.Blocks.{Turns}
use Rattle.theory.specs.Quotient.{Quotient}
use Rattle.lts.specs.Meter as meter
use Rattle.lts.specs.Meter.{IsFresh}
use Rattle.quotient.specs.Visits.{StaysWithin, quotient_passes}
use Rattle.autfmt.specs.Bounds.{Bounds}
use Rattle.autfmt.specs.Texts.{Reads}
use Rattle.autfmt.specs.declared.fault.Fault.{Fault}
use Rattle.autfmt.specs.declared.fault.Fault.TheVariants.{Device, Memory}
use Rattle.autfmt.specs.Outcomes.{Refuses}
use Rattle.autfmt.specs.Stream.{AppendsPrefix}
use Rattle.autfmt.specs.Written.{listed, transition_cmp}
use Rattle.autbis.specs.declared.run.Counts.{Counts}

-- `Request` contains the parameters of a minimisation or a comparison. The field `relation` is the relation modulo
-- which systems are minimised or compared. The field `bounds` contains the largest numbers of states and transitions
-- that an input may have, and the field `hidden` contains the labels to hide.
pub record Request : Type 0 where
  pub relation : Relation
  pub bounds : Bounds
  pub hidden : List (List ℕ)

-- `asks` makes a `Request` record from a relation, the size limits, and the labels to hide.
abbrev pub asks : Relation → Bounds → List (List ℕ) → Request
asks rel bounds H = record { relation = rel; bounds = bounds; hidden = H }

-- `Used` describes the effect of a call on a source or on a sink. A source is an object from which an input is read,
-- and a sink is an object to which an output is written. The fields `old` and `new` are the source or sink before and
-- after the call. For a source, the fields `before` and `after` are the bytes that remain to be read before and after
-- the call. For a sink, `before` and `after` are the bytes that had been written to the sink before and after the call.
-- The fields `before` and `after` are `None` if the contract of the source or sink does not state the bytes. The field
-- `failures` is the number of times that the source or sink has failed until the end of the call.
pub record Used (T : Type 0) : Type 0 where
  pub old : T
  pub new : T
  pub before : Option (List ℕ)
  pub after : Option (List ℕ)
  pub failures : ℕ

-- `used` makes a `Used` record, which describes the effect of a call on a source or on a sink. A source is an object
-- from which an input is read, and a sink is an object to which an output is written. The function `tells` gives the
-- bytes that remain to be read from a source, or the bytes that were written to a sink. The function `failures` gives
-- the number of times that a source or sink has failed so far.
abbrev pub used : {T : Type 0} → (T → Option (List ℕ)) → (T → ℕ) → (old new : T) → Used T
used tells failures old new =
    record { old = old; new = new; before = tells old; after = tells new; failures = failures new }

-- `IsExhausted` holds if the source (the object from which the input is read) was read to its end and has not failed.
abbrev pub IsExhausted : {T : Type 0} → Used T → Type 0
IsExhausted source = IsAtEnd source.after × (source.failures ≡ 0)

-- `Gains sink bytes` holds if exactly the bytes in the list `bytes` were written to the sink (the object to which the
-- output is written), and the sink has not failed.
abbrev pub Gains : {T : Type 0} → Used T → List ℕ → Type 0
Gains sink bytes = Appends sink.before sink.after bytes × (sink.failures ≡ 0)

-- `BreaksOff sink bytes` holds if the sink (the object to which the output is written) failed after a prefix of the
-- list `bytes` had been written.
abbrev pub BreaksOff : {T : Type 0} → Used T → List ℕ → Type 0
BreaksOff sink bytes = AppendsPrefix sink.before sink.after bytes × (sink.failures ≡ 1)

-- `Minimises rel A Q` holds if the system Q is the quotient of the system A modulo the relation `rel`, and has three
-- further properties. First, Q is equivalent to A. Second, no two different states of Q are bisimilar. Third, no system
-- that is equivalent to A has fewer states than Q.
pub record Minimises (rel : Relation) (A Q : System) : Type 0 where
  pub quotient : Quotient rel A Q
  pub equivalent : Equivalent rel A Q
  pub no_two_bisimilar : (s t : ℕ) → Bisimilar rel Q s Q t → s ≡ t
  pub smallest : (B : System) → IsSystem B → Equivalent rel A B → Q.states ≤ B.states

-- `MinimisedText asked text` relates the input `text` to the minimised system. The field `input` is the system that the
-- input describes. The field `output` is the result of hiding labels in this system and then minimising it. The
-- transitions of `output` are in the order in which they are written. If the text that is written for `output` is read,
-- the result is `output` again.
pub record MinimisedText (asked : Request) (text : List ℕ) : Type 0 where
  pub input : System
  pub output : System
  pub read : Reads asked.bounds text input
  pub minimises : Minimises asked.relation (Hide asked.hidden input) output
  pub sorted : IsSorted transition_cmp output.transitions
  pub read_again : Reads asked.bounds (listed output) output

-- `IsReadable` holds if the text describes a system within the size limits `bounds`.
abbrev pub IsReadable : Bounds → List ℕ → Type 0
IsReadable bounds text = (A : System) × Reads bounds text A

-- `IsFaulty` holds if the text does not describe a system within the size limits `bounds`.
abbrev pub IsFaulty : Bounds → List ℕ → Type 0
IsFaulty bounds text = (A : System) → ¬ Reads bounds text A

-- `MinimisesTo` holds if a minimisation has read its input to the end and written the minimised system. Let m be the
-- number of transitions of the system that was read, and let r be the number of rounds that the meter has counted.
-- After the labels to hide have been hidden, the refinement of this system must take r rounds. The number r must be at
-- most the number of states. The number of visits (reads of transitions) must be between r * m and (r + 2) * m. The
-- argument `counts` must be the size of the system that was read.
pub record MinimisesTo {In Out : Type 0} (asked : Request) (text : List ℕ) (source : Used In) (sink : Used Out)
    (at : meter.Counts) (counts : Counts) : Type 0 where
  pub to : MinimisedText asked text
  pub sizes : counts ≡ record { states = to.input.states; transitions = length to.input.transitions }
  pub written : Gains sink (listed to.output)
  pub turns : Turns asked.relation (Hide asked.hidden to.input) at.rounds
  pub keeps : StaysWithin counts.states counts.transitions quotient_passes at (at.rounds * counts.transitions)
  pub exhausted : IsExhausted source

-- `HasReadInput` holds if all three of the following conditions hold. First, a minimisation has read its input to the
-- end. Second, the input is correct. Third, the numbers of rounds and visits (reads of transitions) that the meter has
-- counted are within the bounds for a minimisation of the system that the input describes.
pub record HasReadInput {T : Type 0} (bounds : Bounds) (text : List ℕ) (source : Used T) (at : meter.Counts) : Type 0
  where
    pub exhausted : IsExhausted source
    pub input : System
    pub read : Reads bounds text input
    pub keeps : StaysWithin input.states (length input.transitions) quotient_passes at 0

-- `MinimisationFails` states why a minimisation failed. There are three possible reasons. First, no system could be
-- read from the source, which is the object from which the input is read. Second, memory ran out after a system had
-- been read. Third, the sink, which is the object to which the output is written, failed after a prefix of the output
-- had been written.
pub data MinimisationFails {In Out : Type 0} (asked : Request) (given : List ℕ) (source : Used In) (sink : Used Out)
    (at : meter.Counts) (fault : Fault) : Type 0 where
  not_read : Refuses asked.bounds given source.after source.failures fault → sink.failures ≡ 0 → IsFresh at →
      MinimisationFails asked given source sink at fault
  out_of_memory : HasReadInput asked.bounds given source at → fault ≡ Memory → sink.failures ≡ 0 →
      MinimisationFails asked given source sink at fault
  not_written : HasReadInput asked.bounds given source at → fault ≡ Device → (to : MinimisedText asked given) →
      BreaksOff sink (listed to.output) → MinimisationFails asked given source sink at fault
