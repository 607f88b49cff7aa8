-- This file defines how the command-line arguments are described to the parser `clap`. This file also defines which job
-- (subcommand with its options) follows from the values that `clap` finds for these arguments.
use Rattle.std.specs.Prelude.{◌≡◌, ◌≢◌, ◌⊎◌, ⊤, Any, IsSome, List, [], ◌∷◌, Some, None, codes, true, false, option_map}
use Rattle.std.specs.Prelude.{unwrap_or, string_bytes, Bool, Option}
use Rattle.clap.specs.Words.{App, Row, Rule, Text, fault_of, first_of, new_app, new_rule, one_of, subcommand_of}
use Rattle.clap.specs.Words.{with_rule, with_subcommand}
use Rattle.clap.specs.declared.builder.ArgAction.TheVariants.{SetTrue}
use Rattle.clap.specs.declared.error.kind.ErrorKind.{ErrorKind}
use Rattle.clap.specs.declared.error.kind.ErrorKind.TheVariants.{DisplayHelp, DisplayVersion}
use Rattle.theory.specs.declared.relation.Relation.{Relation}
use Rattle.theory.specs.declared.relation.Relation.TheVariants.{Strong, Branching}
use Rattle.arguments.specs.declared.arguments.Job.{Job}
use Rattle.arguments.specs.declared.arguments.Job.TheVariants.{Min, Cmp}
use Rattle.arguments.specs.declared.arguments.WordFault.{WordFault}
use Rattle.arguments.specs.declared.arguments.WordFault.TheVariants as fault

-- `relation_rule` is the description of the option `--relation WORD` for the parser `clap`. If the command line does
-- not contain this option, the value of the option is `strong`.
abbrev pub relation_rule : Rule
relation_rule = record (new_rule (codes "relation")) {
  long = Some (codes "relation");
  value_names = 1;
  defaults = codes "strong" ∷ [];
}

-- `hide_rule` is the description of the option `--hide FILE` for the parser `clap`.
abbrev pub hide_rule : Rule
hide_rule = record (new_rule (codes "hide")) { long = Some (codes "hide"); value_names = 1 }

-- `stats_rule` is the description of the flag `--stats` for the parser `clap`.
abbrev pub stats_rule : Rule
stats_rule = record (new_rule (codes "stats")) { long = Some (codes "stats"); action = Some SetTrue }

-- `file_rule id` is the description of an optional file argument with the name `id` for the parser `clap`.
abbrev pub file_rule : Text → Rule
file_rule id = record (new_rule id) { value_names = 1 }

-- `job_app name` is the description of the subcommand `name` (`min` or `cmp`) for the parser `clap`. The description
-- consists of the parts that both subcommands share: the name of the subcommand, and the options `--relation` and
-- `--hide`.
abbrev pub job_app : Text → App
job_app name = with_rule (with_rule (new_app name) relation_rule) hide_rule

-- `min_app` is the description of the subcommand `min` and its arguments for the parser `clap`.
abbrev pub min_app : App
min_app = with_rule (with_rule (job_app (codes "min")) stats_rule) (file_rule (codes "file"))

-- `needed_file_rule id` is the description of a mandatory file argument with the name `id` for the parser `clap`.
abbrev pub needed_file_rule : Text → Rule
needed_file_rule id = record (file_rule id) { required = true }

-- `cmp_app` is the description of the subcommand `cmp` and its arguments for the parser `clap`.
abbrev pub cmp_app : App
cmp_app =
    with_rule (with_rule (job_app (codes "cmp")) (needed_file_rule (codes "first"))) (needed_file_rule (codes "second"))

-- `program_app` is the description of the whole command line for the parser `clap`. The command line may contain an
-- option that shows the version, and it must contain a subcommand.
abbrev pub program_app : App
program_app = with_subcommand (with_subcommand (record (new_app (codes "autbis")) {
  top = record (new_app (codes "autbis")).top { has_version = true; subcommand_required = true };
}) min_app.top) cmp_app.top

-- `AreTaken words` holds if `clap` accepts the command-line arguments `words`.
abbrev pub AreTaken : List Text → Type 0
AreTaken words = fault_of program_app words ≡ []

-- `relation_word relation` is the name of the relation `relation` on the command line, which is `strong` or
-- `branching`.
abbrev pub relation_word : Relation → Text
relation_word Strong = codes "strong"
relation_word Branching = codes "branching"

-- `IsFlag rows id flag` holds if `flag` is the value that `clap` has found for the flag with the ID `id`. If `clap` has
-- found no value for this flag, `flag` must be false.
pub record IsFlag (rows : List Row) (id : Text) (flag : Bool) : Type 0 where
  pub given : one_of id rows ≡ Some (codes "true") → flag ≡ true
  pub left_out : one_of id rows ≡ Some (codes "false") → flag ≡ false
  pub unknown : one_of id rows ≡ None → flag ≡ false

-- `relation_in rows` is the name that `clap` has found as the value of the option `--relation`. If `clap` has found no
-- value, the name is `strong`.
abbrev pub relation_in : List Row → Text
relation_in rows = unwrap_or (first_of (codes "relation") rows) (codes "strong")

-- `HasMatches name rows job` holds if `job` is the job (a subcommand with its options) that follows from the subcommand
-- `name` and from the values `rows` that `clap` has found for the arguments of this subcommand.
abbrev pub HasMatches : Text → List Row → Job → Type 0
HasMatches name rows (Min relation stats hide file) = (name ≡ codes "min")
    × (relation_in rows ≡ relation_word relation)
    × IsFlag rows (codes "stats") stats
    × (first_of (codes "hide") rows ≡ option_map string_bytes hide)
    × (first_of (codes "file") rows ≡ option_map string_bytes file)
HasMatches name rows (Cmp relation hide first second) = (name ≡ codes "cmp")
    × (relation_in rows ≡ relation_word relation)
    × (first_of (codes "hide") rows ≡ option_map string_bytes hide)
    × (first_of (codes "first") rows ≡ Some (string_bytes first))
    × (first_of (codes "second") rows ≡ Some (string_bytes second))

-- `IsWhole name rows` holds if `clap` has found all mandatory arguments of the subcommand `name`. The subcommand `min`
-- has no mandatory argument. The subcommand `cmp` has two mandatory arguments, which are the names of two files. The
-- definition does not require that the relation on the command line exists.
abbrev pub IsWhole : Text → List Row → Type 0
IsWhole name rows = (name ≡ codes "min")
    ⊎ ((name ≡ codes "cmp") × IsSome (first_of (codes "first") rows) × IsSome (first_of (codes "second") rows))

-- `NamesNoRelation word fault` holds if `fault` is a correct reason why the name `word` could not be converted to a
-- relation. The first possible reason is that no relation has the name `word`. In this case, the error must contain
-- this name. The second possible reason is that an allocation failed.
abbrev pub NamesNoRelation : Text → WordFault → Type 0
NamesNoRelation word (fault.Relation named) =
    (string_bytes named ≡ word) × ((relation : Relation) → word ≢ relation_word relation)
NamesNoRelation word fault.Memory = ⊤
NamesNoRelation word _ = ⊥

-- `IsJobIn subcommand job` holds if `clap` has found a subcommand, and `job` is the job (a subcommand with its options)
-- that follows from this subcommand and from the values of its arguments.
abbrev pub IsJobIn : Option (Text × List Row) → Job → Type 0
IsJobIn subcommand job = (name : Text) × (rows : List Row) × (subcommand ≡ Some (name, rows)) × HasMatches name rows job

-- `IsFaultIn subcommand fault` states which errors are possible when a job (a subcommand with its options) is made from
-- the subcommand that `clap` has found. There are three possible errors: the relation is unknown, the subcommand or a
-- mandatory argument is missing, or an allocation failed. The error for an unknown relation must contain the name that
-- was given on the command line, and this name must not be the name of a known relation. For the other two errors, the
-- definition states no condition.
abbrev pub IsFaultIn : Option (Text × List Row) → WordFault → Type 0
IsFaultIn subcommand (fault.Relation named) = (name : Text) × (rows : List Row) × (subcommand ≡ Some (name, rows))
    × NamesNoRelation (relation_in rows) (fault.Relation named)
IsFaultIn subcommand (fault.Help text) = ⊥
IsFaultIn subcommand _ = ⊤

-- `IsWholeIn` holds if `clap` has found a subcommand and all mandatory arguments of this subcommand.
abbrev pub IsWholeIn : Option (Text × List Row) → Type 0
IsWholeIn subcommand = (name : Text) × (rows : List Row) × (subcommand ≡ Some (name, rows)) × IsWhole name rows

-- `IsFaultOfAJob` holds for those errors that are possible even if `clap` has found all mandatory arguments of a
-- subcommand. There are two such errors: the relation is unknown, or an allocation failed.
abbrev pub IsFaultOfAJob : WordFault → Type 0
IsFaultOfAJob (fault.Relation _) = ⊤
IsFaultOfAJob fault.Memory = ⊤
IsFaultOfAJob _ = ⊥

-- `IsHelp` holds for the two error kinds that `clap` reports if the arguments ask for help or for the version.
abbrev pub IsHelp : ErrorKind → Type 0
IsHelp kind = (kind ≡ DisplayHelp) ⊎ (kind ≡ DisplayVersion)

-- `IsFaultOfKind kind fault` holds if the function `command` may return the error `fault` when `clap` reports an error
-- of the kind `kind`.
abbrev pub IsFaultOfKind : ErrorKind → WordFault → Type 0
IsFaultOfKind kind (fault.Help text) = IsHelp kind
IsFaultOfKind kind (fault.Usage text) = ¬ IsHelp kind
IsFaultOfKind kind (fault.Relation named) = ⊥
IsFaultOfKind kind fault.Memory = ⊤

-- `IsJobOf words job` holds if `clap` accepts the command-line arguments `words`, and `job` is the job (a subcommand
-- with its options) that follows from the values that `clap` finds in these arguments.
abbrev pub IsJobOf : List Text → Job → Type 0
IsJobOf words job = AreTaken words × IsJobIn (subcommand_of program_app words) job

-- `IsFaultOf words fault` holds if `fault` is a correct reason why the command-line arguments `words` do not lead to a
-- job (a subcommand with its options). There are four possible reasons. First, `clap` accepts the arguments, and the
-- relation is unknown. Second, the arguments ask for help or for the version. Third, `clap` reports an error other than
-- a request for help or for the version, or it accepts the arguments although the subcommand or a mandatory argument is
-- missing. Fourth, an allocation failed.
abbrev pub IsFaultOf : List Text → WordFault → Type 0
IsFaultOf words (fault.Relation named) =
    AreTaken words × IsFaultIn (subcommand_of program_app words) (fault.Relation named)
IsFaultOf words (fault.Help text) = Any IsHelp (fault_of program_app words)
IsFaultOf words (fault.Usage text) = (AreTaken words × ¬ IsWholeIn (subcommand_of program_app words))
    ⊎ Any (λ kind. ¬ IsHelp kind) (fault_of program_app words)
IsFaultOf words fault.Memory = ⊤
