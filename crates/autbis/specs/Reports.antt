-- The definitions below state the exit status for each error, and the line that the option `--stats` writes to standard
-- error.
use Rattle.std.specs.Prelude.{◌≡◌, ◌⊎◌, ℕ, ◌*◌, List, ◌++◌, length, codes, decimal, Option, string_bytes}
use Rattle.std.specs.Io.KnownBytes.{Appends, Keeps}
use Rattle.theory.specs.System.{System, Hide}
use Rattle.theory.specs.declared.relation.Relation.{Relation}
use Rattle.theory.specs.Blocks.{Turns}
use Rattle.theory.specs.Quotient.{allowance}
use Rattle.lts.specs.Meter as meter
use Rattle.quotient.specs.Visits.{StaysWithin, quotient_passes}
use Rattle.autfmt.specs.Stream.{AppendsPrefix}
use Rattle.autfmt.specs.Texts.{Reads}
use Rattle.autfmt.specs.declared.fault.Fault.{Fault}
use Rattle.autfmt.specs.declared.fault.Fault.TheVariants.{Device, Memory}
use Rattle.autbis.specs.Ends.{Contents, OfText}
use Rattle.autbis.specs.Ends.Contents.{one, two}
use Rattle.autbis.specs.Runs.{Request}
use Rattle.autbis.specs.declared.run.Counts.{Counts}
use Rattle.arguments.specs.declared.arguments.WordFault.{WordFault}
use Rattle.arguments.specs.declared.arguments.WordFault.TheVariants as word

-- `status_of fault` is the exit status of a minimisation or a comparison that ended with the error `fault`. The exit
-- status is 5 if a read or write failed, 4 if memory ran out, and 2 if an input is incorrect.
abbrev pub status_of : Fault → ℕ
status_of Device = 5
status_of Memory = 4
status_of _ = 2

-- `IsWordStatus old new fault status` states the exit status and the output of the program if the command line asks
-- neither for a minimisation nor for a comparison. The error `fault` states why the command line asks for neither of
-- them. The lists `old` and `new` contain the bytes of the output before and after the text is written. After a request
-- for help or for the version, the exit status is 0 if the whole text was written, and 5 if writing failed after a
-- prefix of the text. In all other cases, nothing is written to the output, and the exit status is 4 if memory ran out
-- and 3 otherwise.
abbrev pub IsWordStatus : (old new : Option (List ℕ)) → WordFault → ℕ → Type 0
IsWordStatus old new (word.Help text) status =
    ((status ≡ 0) × Appends old new (string_bytes text)) ⊎ ((status ≡ 5) × AppendsPrefix old new (string_bytes text))
IsWordStatus old new word.Memory status = (status ≡ 4) × Keeps old new
IsWordStatus old new _ status = (status ≡ 3) × Keeps old new

-- `stats_line` is the line that the option `--stats` writes. The line contains the numbers of states and transitions of
-- the system, and the numbers of rounds and visits (reads of transitions) that the meter has counted. The last number
-- in the line is the allowance: an upper bound on the number of visits, which depends on the number of rounds.
abbrev pub stats_line : Relation → Counts → meter.Counts → List ℕ
stats_line rel sizes at = codes "stats: states " ++ decimal sizes.states
    ++ codes " transitions " ++ decimal sizes.transitions
    ++ codes " rounds " ++ decimal at.rounds ++ codes " visits " ++ decimal at.visits
    ++ codes " allowance " ++ decimal (allowance rel sizes.states sizes.transitions at.rounds) ++ codes "\n"

-- `ShowsCounts` holds if a prefix of the line that `--stats` asks for was written to standard error. The line must
-- contain the size of the system that was read, and the number of rounds that the refinement of this system takes after
-- the labels to hide have been hidden. The line must also contain a number of visits (reads of transitions) that is
-- within the bounds for a minimisation with this number of rounds.
abbrev pub ShowsCounts : Request → (revealed old new : Option (List ℕ)) → Type 0
ShowsCounts asked revealed old new = OfText revealed
    (λ text. (A : System) × Reads asked.bounds text A × (at : meter.Counts)
    × Turns asked.relation (Hide asked.hidden A) at.rounds
    × StaysWithin A.states (length A.transitions) quotient_passes at (at.rounds * length A.transitions)
    × AppendsPrefix old new
    (stats_line asked.relation (record { states = A.states; transitions = length A.transitions }) at))

-- `ShowsCountsOf` holds if there is only one input, and a prefix of the line that `--stats` asks for was written for
-- this input to standard error. A comparison of two inputs does not write such a line.
abbrev pub ShowsCountsOf : Request → Contents → (old new : Option (List ℕ)) → Type 0
ShowsCountsOf asked (one text) old new = ShowsCounts asked text old new
ShowsCountsOf asked (two first second) old new = ⊥
