use Rattle.std.proofs.Common.{rules, inl, inr, ap, ap₂, arith, suc, List, [], ◌∷◌, Any, Result, Ok, Err, IfErr, map}
use Rattle.std.proofs.Common.{refl, subst, sym, ◌≡◌, ◌∙◌, string_bytes}
use Rattle.std.proofs.lemmas.Result.{IfOk-weaker}
use Rattle.clap.specs.{declared.error.Error.Error, declared.error.kind.ErrorKind.ErrorKind, Values.kind_of}
use Rattle.clap.specs.Words.{HasKind, IsAmong, Text, fault_of, is_simple, is_simple_and_free, subcommand_of}
use Rattle.arguments.specs.{declared.arguments.Job.Job, declared.arguments.WordFault.WordFault}
use Rattle.arguments.specs.Arguments.{AreTaken, IsFaultIn, IsFaultOf, IsFaultOfAJob, IsFaultOfKind, IsHelp, IsJobIn}
use Rattle.arguments.specs.Arguments.{IsWholeIn, program_app}
use Rattle.arguments.specs.declared.arguments.WordFault.TheVariants as fault
use Rattle.arguments.proofs.arguments.command.Goals as goal

-- Suppose that `clap` accepts the arguments, and that r is the result of making a job (a subcommand with its options)
-- from the values that `clap` finds. Suppose also that, if `clap` has found all mandatory arguments and r is an error,
-- then r reports an unknown relation or a failed allocation. Then the contract of `command` allows the result r.
taken_error : (words : List Text) (r : Result Job WordFault) → AreTaken words →
    IfErr r (IsFaultIn (subcommand_of program_app words)) →
    (IsWholeIn (subcommand_of program_app words) → IfErr r IsFaultOfAJob) → IfErr r (IsFaultOf words)
taken_error words (Ok job) taken is asked = tt
taken_error words (Err (fault.Relation named)) taken is asked = (taken, is)
taken_error words (Err (fault.Help text)) taken is asked = absurd is
taken_error words (Err (fault.Usage text)) taken is asked = inl (taken, asked)
taken_error words (Err fault.Memory) taken is asked = tt

-- The contract of `clap` says that an error kind is in a list (`IsAmong`). The contract of `command` says that some
-- element of a list has a property (`Any`). The lemma connects these two statements: if `kind` is in the list `kinds`
-- and has the property P, then some element of `kinds` has the property P.
some_kind : (P : ErrorKind → Type 0) (kind : ErrorKind) (kinds : List ErrorKind) →
    IsAmong kind kinds → P kind → Any P kinds
some_kind P kind [] among holds = elim among [ ]
some_kind P kind (first ∷ rest) (inl is) holds = (0, first, omega arith, refl, rw is at holds)
some_kind P kind (first ∷ rest) (inr among) holds =
    let (k, other, below, at, does) = some_kind P kind rest among holds in (suc k, other, omega arith, at, does)

-- Suppose that `clap` reports an error for the arguments, and that an error of this kind may be converted into the
-- error f (`IsFaultOfKind`). Then the contract of `command` allows the error f.
found_fault : (words : List Text) (e : Error) (f : WordFault) → IsAmong (kind_of e) (fault_of program_app words) →
    IsFaultOfKind (kind_of e) f →
    IsFaultOf words f
found_fault words e (fault.Relation named) among is = absurd is
found_fault words e (fault.Help text) among is = some_kind IsHelp (kind_of e) (fault_of program_app words) among is
found_fault words e (fault.Usage text) among is =
    inr (some_kind (λ kind. ¬ IsHelp kind) (kind_of e) (fault_of program_app words) among is)
found_fault words e fault.Memory among is = tt

-- The contracts of `clap` hold only for simple descriptions of a command line (`is_simple`, `is_simple_and_free`). The
-- prover computes that the description `program_app` is simple in both senses.
pub returns-in-Ok : goal.returns-in-Ok
returns-in-Ok c =
    let words_are : c.as_slice.result.now ≡ c.args.words.items = search rules in
    let found = c.in-Ok.ensures.matches (ap is_simple c.in_ok-described.ensures) in
    let subcommand = found.1 ∙ ap₂ subcommand_of c.in_ok-described.ensures (ap (map string_bytes) words_are) in
    let none = c.in-Ok.ensures.kinds (ap is_simple_and_free c.in_ok-described.ensures) in
    let taken = sym (ap₂ fault_of c.in_ok-described.ensures (ap (map string_bytes) words_are)) ∙ none in
    record {
      job = IfOk-weaker c.job_of.result _ _ (λ job is. (taken, subst (λ s. IsJobIn s job) subcommand is))
          c.job_of.ensures.job;
      fault = taken_error (map string_bytes c.args.words.items) c.job_of.result taken
          (subst (λ s. IfErr c.job_of.result (IsFaultIn s)) subcommand c.job_of.ensures.fault)
          (λ a. c.job_of.ensures.asked (a.0, a.1, subcommand ∙ a.2, a.3));
    }

pub returns-clause-fault : goal.returns-clause-fault
returns-clause-fault c =
    let words_are : c.as_slice.result.now ≡ c.args.words.items = search rules in
    let same = ap₂ fault_of c.in_ok-described.ensures (ap (map string_bytes) words_are) in
    let kind = subst (λ kinds. HasKind kinds c.in-Err.error) same
    (c.in-Err.ensures.kinds (ap is_simple_and_free c.in_ok-described.ensures)) in
    elim kind [
      | inl memory ↦ subst (IsFaultOf (map string_bytes c.args.words.items)) (sym (c.fault_of.ensures.memory memory)) tt
      | inr among ↦ found_fault (map string_bytes c.args.words.items) c.in-Err.error _ among c.fault_of.ensures.kind
    ]
