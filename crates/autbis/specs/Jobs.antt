-- A job is the task that the command line asks for. The definitions below state which files and which parameters a job
-- has, and how a job ends. An opener is an object that opens files by their names.
use Rattle.std.specs.Prelude.{◌≡◌, ◌≢◌, ◌⊎◌, ℕ, Bool, false, List, [], ◌∷◌, ◌++◌, Option, None, Some, IfSome, IsSomeAnd}
use Rattle.std.specs.Prelude.{option_map, option_to_list, string_bytes}
use Rattle.theory.specs.declared.relation.Relation.{Relation}
use Rattle.autfmt.specs.Bounds.{file_bounds}
use Rattle.autfmt.specs.HideLists.{HideReads}
use Rattle.autfmt.specs.HideReaders.{HidesAs}
use Rattle.autbis.specs.Ends.{Contents, EndsRun}
use Rattle.autbis.specs.Ends.Contents.{one, two}
use Rattle.autbis.specs.Files.{FilesUsed, HasAll, HasLostNone, IsRefused, Name}
use Rattle.autbis.specs.Runs.{Request, Used, asks}
use Rattle.arguments.specs.declared.arguments.Job.{Job}
use Rattle.arguments.specs.declared.arguments.Job.TheVariants.{Min, Cmp}

-- `relation_of job` is the relation modulo which the job (the task that the command line asks for) minimises or
-- compares systems.
abbrev pub relation_of : Job → Relation
relation_of (Min relation stats hide file) = relation
relation_of (Cmp relation hide first second) = relation

-- `shows_counts job` is true if the job (the task that the command line asks for) writes the line that `--stats` asks
-- for, which contains the size of the system and the numbers of rounds and visits (reads of transitions). Only a
-- minimisation with the option `--stats` writes this line.
abbrev pub shows_counts : Job → Bool
shows_counts (Min relation stats hide file) = stats
shows_counts (Cmp relation hide first second) = false

-- `hide_of job` is the name of the hide list, which is a file with the labels to hide. The result is `None` if the job
-- (the task that the command line asks for) names no hide list.
abbrev pub hide_of : Job → Option Name
hide_of (Min relation stats hide file) = option_map string_bytes hide
hide_of (Cmp relation hide first second) = option_map string_bytes hide

-- `texts_of job` lists the names of the input files of the job (the task that the command line asks for). The list is
-- empty if the job is to minimise standard input.
abbrev pub texts_of : Job → List Name
texts_of (Min relation stats hide file) = option_to_list (option_map string_bytes file)
texts_of (Cmp relation hide first second) = string_bytes first ∷ string_bytes second ∷ []

-- `files_of job` lists the names of all files of the job (the task that the command line asks for), in the order in
-- which they are opened. The input files are opened first, and then the hide list, which is a file with the labels to
-- hide.
abbrev pub files_of : Job → List Name
files_of job = texts_of job ++ option_to_list (hide_of job)

-- `request_of job hidden` consists of the parameters of the job (the task that the command line asks for). These
-- parameters are the relation modulo which the job minimises or compares systems, the limits on the sizes of input
-- files, and the list `hidden` of the labels to hide.
abbrev pub request_of : Job → List (List ℕ) → Request
request_of job hidden = asks (relation_of job) file_bounds hidden

-- `HidesNamed holds hide H` holds if the list H contains exactly the labels of the hide list, which is the file `hide`
-- with the labels to hide. The function `holds` gives the contents of each file. If this function gives `None`, the
-- contract of the opener (an object that opens files by their names) does not state the contents of the file. In this
-- case, H can be any list. If `hide` is `None`, there is no hide list, and H must be empty.
abbrev pub HidesNamed : (Name → Option (List ℕ)) → Option Name → List (List ℕ) → Type 0
HidesNamed holds None H = H ≡ []
HidesNamed holds (Some name) H = IfSome (holds name) (λ list. HidesAs list H)

-- `revealed_of holds input job` consists of the contents of the inputs of the job (the task that the command line asks
-- for). The inputs are the input files of the job, or standard input if the job names no input file. The function
-- `holds` gives the contents of each file, and `input` contains the contents of standard input. The contents of an
-- input are `None` if no contract states them.
abbrev pub revealed_of : (Name → Option (List ℕ)) → (input : Option (List ℕ)) → Job → Contents
revealed_of holds input (Min relation stats hide None) = one input
revealed_of holds input (Min relation stats hide (Some file)) = one (holds (string_bytes file))
revealed_of holds input (Cmp relation hide first second)
    = two (holds (string_bytes first)) (holds (string_bytes second))

-- `HasFaultyList holds hide` holds if the hide list, which is the file `hide` with the labels to hide, is incorrect. If
-- the contract of the opener (an object that opens files by their names) does not state the contents of this file,
-- `HasFaultyList` holds whether or not the hide list is correct. If `hide` is `None`, there is no hide list, and
-- `HasFaultyList` does not hold.
abbrev pub HasFaultyList : (Name → Option (List ℕ)) → Option Name → Type 0
HasFaultyList holds hide =
    IsSomeAnd hide (λ name. IfSome (holds name) (λ list. (H : List (List ℕ)) → ¬ HideReads list H))

-- `HideListFails` states why the hide list (the file with the labels to hide) could not be read, and which exit status
-- the program has. There are three possible reasons. First, a read from the file failed, and the exit status is 5.
-- Second, memory ran out, and the exit status is 4. Third, the hide list is incorrect, and the exit status is 2.
pub data HideListFails {F : Type 0} (files : FilesUsed F) (hide : Option Name) (status : ℕ) : Type 0 where
  list_failed : hide ≢ None → files.lost files.new ≡ 1 → status ≡ 5 → HideListFails files hide status
  no_memory : HasLostNone files → status ≡ 4 → HideListFails files hide status
  list_faulty : HasLostNone files → HasFaultyList (files.holds files.old) hide → status ≡ 2 →
      HideListFails files hide status

-- `IsGivenUp` holds if a job (the task that the command line asks for) ended early. The first possible reason is that
-- one of the files of the job could not be opened. The second possible reason is that the hide list (the file with the
-- labels to hide) could not be read, although all files of the job were opened.
abbrev pub IsGivenUp : {F : Type 0} → FilesUsed F → List Name → (hide : Option Name) → (status : ℕ) → Type 0
IsGivenUp files names hide status = IsRefused files names status
    ⊎ (HasAll files names × HideListFails files hide status)

-- `NoTextFailed` holds if standard input has not failed, and a call on an opener (an object that opens files by their
-- names) has not changed the value `lost` of the opener. This value is 1 if a read from a file had failed before the
-- file was closed, and otherwise 0.
abbrev pub NoTextFailed : {F In : Type 0} → FilesUsed F → Used In → Type 0
NoTextFailed files input = (input.failures ≡ 0) × HasLostNone files

-- `TextFailed` holds if standard input has failed. `TextFailed` also holds if the job (the task that the command line
-- asks for) names input files, and a read from a file had failed before the file was closed.
abbrev pub TextFailed : {F In : Type 0} → FilesUsed F → Used In → Job → Type 0
TextFailed files input job = (input.failures ≡ 1) ⊎ ((texts_of job ≢ []) × (files.lost files.new ≡ 1))

-- `RunsJob` holds if a job (the task that the command line asks for) was run to its end. All four of the following
-- conditions must hold. First, all files of the job were opened. Second, standard input is unchanged if the job names
-- input files. Third, the field `hidden` contains the labels of the hide list, which is a file with the labels to hide.
-- Fourth, the minimisation or comparison of the inputs ended as `EndsRun` states.
pub record RunsJob {F In Out : Type 0} (files : FilesUsed F) (input : Used In) (output : Used Out) (job : Job)
    (status : ℕ) : Type 0 where
  pub all : HasAll files (files_of job)
  pub unread : texts_of job ≢ [] → input.new ≡ input.old
  pub hidden : List (List ℕ)
  pub hides : HidesNamed (files.holds files.old) (hide_of job) hidden
  pub ends : EndsRun (request_of job hidden) (revealed_of (files.holds files.old) input.before job)
      (NoTextFailed files input) (TextFailed files input job) output status

-- `JobEnds` states how a job (the task that the command line asks for) ended. If the job ended early, neither standard
-- input nor the sink (the object to which the output is written) has changed. Otherwise, the minimisation or comparison
-- was run, and ended as `RunsJob` states.
pub data JobEnds {F In Out : Type 0} (files : FilesUsed F) (input : Used In) (output : Used Out) (job : Job)
    (status : ℕ) : Type 0 where
  given_up : IsGivenUp files (files_of job) (hide_of job) status → input.new ≡ input.old → output.new ≡ output.old →
      JobEnds files input output job status
  ran : RunsJob files input output job status → JobEnds files input output job status
