-- A job is the task that the command line asks for. The definitions below describe the files that a job opens, and the
-- contents of these files. An opener is an object that opens files by their names.
use Rattle.std.specs.Prelude.{◌≡◌, ℕ, List, ◌++◌, Option, Some, IfSome}

-- `Name` is the type of the names of files. A name is a list of bytes.
abbrev pub Name : Type 0
Name = List ℕ

-- `Opens old new names` holds if an opener (an object that opens files by their names) was asked to open the files with
-- the names `names`, one after the other. The list `old` contains the names of the files that the opener was asked to
-- open before. The list `new` contains the names in `old`, followed by the names in `names`. If `old` is `None`, the
-- contract of the opener does not state which files the opener was asked to open. In this case, `Opens` holds for all
-- `new` and `names`.
abbrev pub Opens : Option (List Name) → Option (List Name) → List Name → Type 0
Opens old new names = IfSome old (λ known. new ≡ Some (known ++ names))

-- `FilesUsed` describes the effect of a call on an opener, which is an object that opens files by their names. The
-- fields `old` and `new` are the opener before and after the call. The other four fields are functions whose argument
-- is an opener. The function `holds` gives the contents of the file with a given name. The function `opened` gives the
-- names of all files that the opener was asked to open. The function `failures` gives 1 if a file could not be opened,
-- and 0 otherwise. The function `lost` gives 1 if a read from a file had failed before the file was closed, and 0
-- otherwise.
pub record FilesUsed (F : Type 0) : Type 0 where
  pub old : F
  pub new : F
  pub holds : F → Name → Option (List ℕ)
  pub opened : F → Option (List Name)
  pub failures : F → ℕ
  pub lost : F → ℕ

-- `files_used` makes a `FilesUsed` record, which describes the effect of a call on an opener (an object that opens
-- files by their names). The first four arguments are functions whose argument is an opener, and become fields of the
-- record. The last two arguments are the opener before the call and the opener after the call.
abbrev pub files_used : {F : Type 0} → (F → Name → Option (List ℕ)) → (F → Option (List Name)) →
    (failures lost : F → ℕ) → (old new : F) → FilesUsed F
files_used holds opened failures lost old new =
    record { old = old; new = new; holds = holds; opened = opened; failures = failures; lost = lost }

-- `HasAll files names` holds if all three of the following conditions hold. First, a call asked the opener (an object
-- that opens files by their names) to open the files with the names `names`, in this order, and no other files. Second,
-- all these files could be opened. Third, the contents of all files are the same before and after the call.
pub record HasAll {F : Type 0} (files : FilesUsed F) (names : List Name) : Type 0 where
  pub opens : Opens (files.opened files.old) (files.opened files.new) names
  pub sound : files.failures files.new ≡ files.failures files.old
  pub same : files.holds files.new ≡ files.holds files.old

-- `IsRefused files names status` holds if the files with the names `names` had to be opened in this order, and one of
-- these files could not be opened. The list `asked` contains the names of the files that the opener (an object that
-- opens files by their names) was asked to open. The list `later` contains the names of the other files, which the
-- opener was not asked to open. The exit status `status` must be 5.
pub record IsRefused {F : Type 0} (files : FilesUsed F) (names : List Name) (status : ℕ) : Type 0 where
  pub asked : List Name
  pub later : List Name
  pub opens : Opens (files.opened files.old) (files.opened files.new) asked
  pub in_order : names ≡ asked ++ later
  pub failed : files.failures files.new ≡ 1
  pub exit : status ≡ 5

-- `HasLostNone` holds if a call on an opener (an object that opens files by their names) has not changed the value
-- `lost` of the opener. This value is 1 if a read from a file had failed before the file was closed, and otherwise 0.
abbrev pub HasLostNone : {F : Type 0} → FilesUsed F → Type 0
HasLostNone files = files.lost files.new ≡ files.lost files.old
