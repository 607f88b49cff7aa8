-- An opener is an object that opens files by their names. The lemmas in this file are about several calls of an opener,
-- which open files one after the other, or close files.
use Rattle.std.proofs.Common.{rules, ◌≡◌, ◌≤◌, ℕ, List, ◌++◌, Option, Some, ◌∙◌, ap, sym, append_assoc, arith, inl, inr}
use Rattle.std.proofs.lemmas.Option.{IfSome_then}
use Rattle.autbis.specs.{Jobs.IsGivenUp, Opened.OnlyCloses}
use Rattle.autbis.specs.Files.{FilesUsed, HasAll, HasLostNone, IsRefused, Name, Opens}
use Rattle.autbis.specs.Jobs.HideListFails.{list_failed, no_memory, list_faulty}

-- Suppose that an opener (an object that opens files by their names) was asked to open the files `first`, and then to
-- open the files `more`. Then the opener was asked to open the files `first ++ more`.
opens_then : (old mid new : Option (List Name)) (first more : List Name) → Opens old mid first → Opens mid new more →
    Opens old new (first ++ more)
opens_then old mid new first more a b =
    IfSome_then old a (λ known is. rw is at b ∙ ap Some (append_assoc known first more))

-- `IsRefused` holds for a list of files if a sequence of calls tried to open the first files of this list, one after
-- the other, and one of them could not be opened. If `IsRefused` holds for the list `first`, then `IsRefused` holds for
-- the longer list `first ++ more`.
pub refused_then : {F : Type 0} {files : FilesUsed F} {first : List Name} (more : List Name) {status : ℕ} →
    IsRefused files first status → IsRefused files (first ++ more) status
refused_then {first = first} more is =
    let whole : first ++ more ≡ is.asked ++ (is.later ++ more) =
    ap (λ names. names ++ more) is.in_order ∙ append_assoc is.asked is.later more in
    search (rules, is, whole)

-- `HasAll` holds for a list of files if all these files were opened. Suppose that all files in the list `first` were
-- opened, and that all files in the list `more` were opened after them. Then `HasAll` holds for the list `first ++
-- more`.
pub all_then : {F : Type 0} {files : FilesUsed F} {first more : List Name} (mid : F) →
    HasAll (record files { new = mid }) first → HasAll (record files { old = mid }) more → HasAll files (first ++ more)
all_then mid all others =
    search (rules, opens_then, all.opens, others.opens, others.sound, all.sound, others.same, all.same)

-- `HasAll` holds for a sequence of calls if these calls opened all files with the names in `names`, and changed the
-- contents of no file. Suppose that `HasAll` holds for a sequence of calls, and that the calls after this sequence only
-- closed files. Then `HasAll` also holds for the sequence of all these calls.
pub all_closed : {F : Type 0} {files : FilesUsed F} {names : List Name} (mid : F) →
    OnlyCloses (record files { old = mid }) → HasAll (record files { new = mid }) names → HasAll files names
all_closed mid only all = search rules

-- The following lemmas are about three sequences of calls. The first sequence opened all files in the list `first`. The
-- second sequence was then to open the files in the list `more`. The third sequence only closed files. The opener (an
-- object that opens files by their names) is `mid` before the second sequence, and `last` after it.
module _ {F : Type 0} {files : FilesUsed F} {first more : List Name} {status : ℕ} (mid last : F)
    (all : HasAll (record files { new = mid }) first) (only : OnlyCloses (record files { old = last })) where
  -- `IsRefused` holds for a list of files if a sequence of calls tried to open the first files of this list, one after
  -- the other, and one of them could not be opened. If `IsRefused` holds for the second sequence of calls and the list
  -- `more`, then `IsRefused` holds for all calls together and the list `first ++ more`.
  pub refused_between : IsRefused (record files { old = mid; new = last }) more status →
      IsRefused files (first ++ more) status
  refused_between is =
      let whole : first ++ more ≡ (first ++ is.asked) ++ is.later =
      ap (λ names. first ++ names) is.in_order ∙ sym (append_assoc first is.asked is.later) in
      search (rules, is, whole, only, opens_then, all.opens, is.opens)

  -- `IsGivenUp` holds if a job (the task that the command line asks for) ended early. The reason is that one of its
  -- files could not be opened, or that the hide list (the file with the labels to hide) could not be read. Suppose that
  -- `IsGivenUp` holds for the second sequence of calls and the list `more`. Suppose also that neither the first nor the
  -- third sequence of calls closed a file from which a read had failed. Then `IsGivenUp` holds for all calls together
  -- and the list `first ++ more`.
  pub given_up_between : {hide : Option Name} → HasLostNone (record files { new = mid }) →
      HasLostNone (record files { old = last }) →
      IsGivenUp (record files { old = mid; new = last }) more hide status → IsGivenUp files (first ++ more) hide status
  given_up_between before after (inl other) = inl (refused_between other)
  given_up_between before after (inr (others, unread)) = inr (
    all_closed last only (all_then mid all others),
    elim unread [
      | list_failed named lost five ↦ list_failed named (after ∙ lost) five
      | no_memory none four ↦ no_memory (after ∙ none ∙ before) four
      | list_faulty none wrong two ↦ list_faulty (after ∙ none ∙ before) (rw all.same at wrong) two
    ],
  )

-- If a job (the task that the command line asks for) ended early, its exit status is at least 2.
pub given_up_fails : {F : Type 0} {files : FilesUsed F} {names : List Name} {hide : Option Name} {status : ℕ} →
    IsGivenUp files names hide status → ¬ (status ≤ 1)
given_up_fails fails low = absurd (grind arith)
