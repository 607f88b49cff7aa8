-- These definitions state, for each command line, the exit status of the program and its effect on the files and the
-- standard streams.
use Rattle.std.specs.Prelude.{◌≡◌, ◌≢◌, ◌⊎◌, ℕ, IsTrue, List, Option, Result, IsOkAnd, MatchResult, String, Vec, map}
use Rattle.std.specs.Prelude.{string_bytes, ⊤}
use Rattle.std.specs.IoError.{error_kind}
use Rattle.std.specs.declared.alloc.Global.{Global}
use Rattle.std.specs.declared.io.Error.{Error}
use Rattle.std.specs.declared.io.ErrorKind.TheVariants.{OutOfMemory}
use Rattle.autbis.specs.Files.{FilesUsed, Name}
use Rattle.autbis.specs.Jobs.{JobEnds, HidesNamed, hide_of, request_of, shows_counts, revealed_of}
use Rattle.autbis.specs.Reports.{ShowsCountsOf}
use Rattle.autbis.specs.Runs.{BreaksOff, Gains, Used}
use Rattle.arguments.specs.Arguments.{IsFaultOf, IsJobOf}
use Rattle.arguments.specs.declared.arguments.Job.{Job}
use Rattle.arguments.specs.declared.arguments.WordFault.{WordFault}
use Rattle.arguments.specs.declared.arguments.WordFault.TheVariants as fault

-- `EndsWords output fault status` states how the program ended if the command line asks neither for a minimisation nor
-- for a comparison. The error `fault` states why the command line asks for neither of them. After a request for help or
-- for the version, the exit status is 0 if the whole text was written. The exit status is 5 if the sink (the object to
-- which the output is written) failed after a prefix of the text had been written. In all other cases, the sink is
-- unchanged, and the exit status is 4 if memory ran out and 3 otherwise.
abbrev pub EndsWords : {Out : Type 0} → Used Out → WordFault → ℕ → Type 0
EndsWords output (fault.Help text) status =
    ((status ≡ 0) × Gains output (string_bytes text)) ⊎ ((status ≡ 5) × BreaksOff output (string_bytes text))
EndsWords output fault.Memory status = (status ≡ 4) × (output.new ≡ output.old)
EndsWords output _ status = (status ≡ 3) × (output.new ≡ output.old)

-- `IsUnread error fault` holds if the program may report `fault` when the operating system returned `error` instead of
-- the command line. The program may always report that memory ran out. The program may report an incorrect command line
-- (`Usage`) only if `error` does not mean that memory ran out.
abbrev pub IsUnread : Error → WordFault → Type 0
IsUnread error fault.Memory = ⊤
IsUnread error (fault.Usage text) = error_kind error ≢ OutOfMemory
IsUnread error _ = ⊥

-- `AskFor words job` holds if the operating system supplied the command line `words`, and the arguments of this command
-- line ask for the job `job` (a subcommand with its options).
abbrev pub AskFor : Result (Vec (String Global) Global) Error → Job → Type 0
AskFor words job = IsOkAnd words (λ words. IsJobOf (map string_bytes words.items) job)

-- `AskForNone words fault` holds if the command line `words` leads neither to a minimisation nor to a comparison, and
-- `fault` is the reason. There are four possible reasons. The command line asks for help or for the version, or it is
-- incorrect, or it could not be read, or memory ran out.
abbrev pub AskForNone : Result (Vec (String Global) Global) Error → WordFault → Type 0
AskForNone words fault =
    MatchResult words (λ words. IsFaultOf (map string_bytes words.items) fault) (λ error. IsUnread error fault)

-- `ShowsStats` holds if all three of the following conditions hold. First, the command line asks for a minimisation
-- with the option `--stats`. Second, the list `hidden` contains exactly the labels of the hide list, which is a file
-- with the labels to hide (`HidesNamed`). Third, a prefix of the line that `--stats` asks for was written to standard
-- error. The function `holds` gives the contents of each file, and the list `input` contains the bytes of standard
-- input. The lists `old` and `new` contain the bytes of standard error before the program runs and after it has ended.
pub record ShowsStats (words : Result (Vec (String Global) Global) Error) (holds : Name → Option (List ℕ))
    (input old new : Option (List ℕ)) : Type 0 where
  pub job : Job
  pub asked : AskFor words job
  pub stats : IsTrue (shows_counts job)
  pub hidden : List (List ℕ)
  pub hides : HidesNamed holds (hide_of job) hidden
  pub shown : ShowsCountsOf (request_of job hidden) (revealed_of holds input job) old new

-- `AnswersWords` states how the program ended. If the command line asks for a job (a subcommand with its options), the
-- job ended as `JobEnds` states. If the command line does not ask for a job, the program ended as `EndsWords` states,
-- and neither files nor standard input were used.
pub data AnswersWords {F In Out : Type 0} (words : Result (Vec (String Global) Global) Error)
    (files : FilesUsed F) (input : Used In) (output : Used Out) (status : ℕ) : Type 0 where
  job : (job : Job) → AskFor words job → JobEnds files input output job status →
      AnswersWords words files input output status
  no_job : (fault : WordFault) → AskForNone words fault → files.new ≡ files.old → input.new ≡ input.old →
      EndsWords output fault status → AnswersWords words files input output status
