-- The definitions below describe the input files of a job (the task that the command line asks for) after they have
-- been opened. The definitions also describe the labels of the hide list, which is a file with the labels to hide. An
-- opener is an object that opens files by their names.
use Rattle.std.specs.Prelude.{◌≡◌, ◌≢◌, ◌↔◌, ◌⊎◌, ℕ, List, [], Option, Some, IfSome, ⊤}
use Rattle.autbis.specs.Ends.{Contents}
use Rattle.autbis.specs.Ends.Contents.{one, two}
use Rattle.autbis.specs.Files.{FilesUsed, HasAll, HasLostNone, Name}
use Rattle.autbis.specs.Jobs.{HidesNamed, files_of, hide_of, texts_of, revealed_of}
use Rattle.autbis.specs.declared.opening.Opened.{Opened}
use Rattle.autbis.specs.declared.opening.Texts.{Texts}
use Rattle.autbis.specs.declared.opening.Texts.TheVariants.{Input, One, Two}
use Rattle.arguments.specs.declared.arguments.Job.{Job}

-- `contents_of rest input texts` consists of the bytes that are still to be read from the inputs `texts`, which are
-- open files or standard input. The function `rest` gives the remaining bytes of an open file, and `input` contains the
-- remaining bytes of standard input.
abbrev pub contents_of : {File : Type 0} → (File → Option (List ℕ)) → (input : Option (List ℕ)) → Texts File → Contents
contents_of rest input Input = one input
contents_of rest input (One file) = one (rest file)
contents_of rest input (Two first second) = two (rest first) (rest second)

-- `AreFiles` holds if the inputs are files, and does not hold if the input is standard input.
abbrev pub AreFiles : {File : Type 0} → Texts File → Type 0
AreFiles Input = ⊥
AreFiles _ = ⊤

-- `HaveNotFailed failures texts` holds if no read from an open input file has failed. The function `failures` gives the
-- number of failed reads from an open file. If the input is standard input, there is no open input file, and
-- `HaveNotFailed` is true.
abbrev pub HaveNotFailed : {File : Type 0} → (File → ℕ) → Texts File → Type 0
HaveNotFailed failures Input = ⊤
HaveNotFailed failures (One file) = failures file ≡ 0
HaveNotFailed failures (Two first second) = (failures first ≡ 0) × (failures second ≡ 0)

-- `HasOneFailed failures texts` holds if a read has failed for exactly one open input file. The function `failures`
-- gives the number of failed reads from an open file. If the input is standard input, there is no open input file, and
-- `HasOneFailed` is false.
abbrev pub HasOneFailed : {File : Type 0} → (File → ℕ) → Texts File → Type 0
HasOneFailed failures Input = ⊥
HasOneFailed failures (One file) = failures file ≡ 1
HasOneFailed failures (Two first second) =
    ((failures first ≡ 1) × (failures second ≡ 0)) ⊎ ((failures first ≡ 0) × (failures second ≡ 1))

-- `count_of texts` is the number of open input files.
abbrev pub count_of : {File : Type 0} → Texts File → ℕ
count_of Input = 0
count_of (One file) = 1
count_of (Two first second) = 2

-- `AreAsRevealed revealed contents` holds if the actual contents of the inputs are the contents that a contract states.
-- The argument `revealed` contains the contents that the contract states, and `contents` contains the actual contents.
-- If the contract does not state the contents of an input, `contents` can contain any contents of this input.
abbrev pub AreAsRevealed : (revealed contents : Contents) → Type 0
AreAsRevealed (one revealed) (one text) = IfSome revealed (λ bytes. text ≡ Some bytes)
AreAsRevealed (two revealed more) (two text other) =
    IfSome revealed (λ bytes. text ≡ Some bytes) × IfSome more (λ bytes. other ≡ Some bytes)
AreAsRevealed _ _ = ⊥

-- An opener is an object that opens files by their names. `AreOpened` holds if all three of the following conditions
-- hold. First, if the contract of the opener states the contents of an input, then the input has these contents
-- (`AreAsRevealed`). Second, the inputs are open files if and only if the job (the task that the command line asks for)
-- names input files. Third, no read from an open input file has failed.
pub record AreOpened {File : Type 0} (rest : File → Option (List ℕ)) (failures : File → ℕ)
    (holds : Name → Option (List ℕ)) (job : Job) (texts : Texts File) : Type 0 where
  pub contents : (input : Option (List ℕ)) → AreAsRevealed (revealed_of holds input job) (contents_of rest input texts)
  pub files : AreFiles texts ↔ (texts_of job ≢ [])
  pub sound : HaveNotFailed failures texts

-- `IsOpened` holds if all four of the following conditions hold. First, all files of a job (the task that the command
-- line asks for) were opened. Second, the value `lost` of the opener (an object that opens files by their names) has
-- not changed. This value is 1 if a read from a file had failed before the file was closed. Third, the input files are
-- open, and no read from an input file has failed. Fourth, the labels of the hide list, which is a file with the labels
-- to hide, were read.
pub record IsOpened {F File : Type 0} (rest : File → Option (List ℕ)) (failures : File → ℕ)
    (files : FilesUsed F) (job : Job) (opened : Opened File) : Type 0 where
  pub all : HasAll files (files_of job)
  pub none_lost : HasLostNone files
  pub texts : AreOpened rest failures (files.holds files.old) job opened.texts
  pub hidden : HidesNamed (files.holds files.old) (hide_of job) opened.hidden

-- `OnlyCloses` holds if a call on an opener (an object that opens files by their names) has opened no file, and has not
-- changed the contents of any file. The call may have closed files.
pub record OnlyCloses {F : Type 0} (files : FilesUsed F) : Type 0 where
  pub opened : files.opened files.new ≡ files.opened files.old
  pub failures : files.failures files.new ≡ files.failures files.old
  pub holds : files.holds files.new ≡ files.holds files.old
