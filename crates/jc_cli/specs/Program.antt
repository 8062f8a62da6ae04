-- The program's command, and what words ask of it as `clap` reads them.
use Rattle.std.specs.Prelude.{◌≡◌, ◌≢◌, ◌≤◌, ◌<◌, ◌^◌, ◌⊎◌, ◌&&◌, ◌==◌, ℕ, pos, ◌||◌, Bool, true, false, if◌then◌else◌, List, [], ◌∷◌, map, find, Option, Some, None, option_map, option_and_then, unwrap_or, codes, string_bytes, ⊤}
use Rattle.std.specs.Borrow.{Bor}
use Rattle.std.specs.List.{All, list_any, slice_split}
use Rattle.std.specs.Str.{bytes_eq}
use Rattle.std.specs.Str.Parse.{IsNumeral, without_leading_plus, digits_value}
use Rattle.clap.specs.Kinds.{HasKind}
use Rattle.clap.specs.Words.{App, Row, Rule, Text, new_app, new_rule, one_of, first_of, found_of, rows_of, subcommand_of, with_rule, with_subcommand, fault_of}
use Rattle.clap.specs.declared.builder.ArgAction.TheVariants.{Set, SetTrue}
use Rattle.clap.specs.declared.builder.value_parser.ValueParser.TheVariants as parsers
use Rattle.clap.specs.declared.parser.matches.ArgMatches.{ArgMatches}
use Rattle.clap.specs.declared.parser.matches.ValueSource.{ValueSource}
use Rattle.clap.specs.declared.parser.matches.ValueSource.TheVariants.{DefaultValue, CommandLine}
use Rattle.clap.specs.declared.error.Error.{Error}
use Rattle.clap.specs.declared.error.kind.ErrorKind.TheVariants as kinds
use Rattle.jc_cli.specs.declared.asked.Asked.{Asked}
use Rattle.jc_cli.specs.declared.asked.Asked.TheVariants as asked
use Rattle.jc_cli.specs.declared.asked.Check.{Check}
use Rattle.jc_cli.specs.declared.asked.Replay.{Replay}
use Rattle.jc_cli.specs.declared.clash.Clash.{Clash}
use Rattle.jc_cli.specs.declared.clash.Clash.TheVariants as clash
use Rattle.jc_cli.specs.declared.run.Explain.{Explain}
use Rattle.jc_cli.specs.declared.run.Explain.TheVariants as explain
use Rattle.jc_cli.specs.declared.run.Format.{Format}
use Rattle.jc_cli.specs.declared.run.Format.TheVariants as form
use Rattle.jc_cli.specs.declared.run.Run.{Run}
use Rattle.jc_cli.specs.declared.run.Options.{Options}

-- The arguments of `run`, `check` and `replay`.

-- a path, and whether it has to be there
abbrev pub path_rule : Text → Bool → Rule
path_rule id is_required = record (new_rule id) { required = is_required; action = Some Set }

abbrev pub workers_rule : Rule
workers_rule = record (new_rule (codes "workers")) { long = Some (codes "workers"); action = Some Set; value_names = 1; parser = Some (parsers.Signed (pos 1) (pos 8)); defaults = codes "1" ∷ [] }

abbrev pub seed_rule : Rule
seed_rule = record (new_rule (codes "seed")) { long = Some (codes "seed"); action = Some Set; value_names = 1; parser = Some (parsers.Signed (pos 0) (pos 9223372036854775807)); defaults = codes "0" ∷ [] }

abbrev pub format_rule : Rule
format_rule = record (new_rule (codes "format")) { long = Some (codes "format"); action = Some Set; value_names = 1; defaults = codes "text" ∷ [] }

abbrev pub explain_rule : Rule
explain_rule = record (new_rule (codes "explain")) { long = Some (codes "explain"); action = Some Set; value_names = 1; defaults = codes "auto" ∷ [] }

-- an option without a value
abbrev pub flag_rule : Text → Rule
flag_rule id = record (new_rule id) { long = Some id; action = Some SetTrue }

-- the paths of both files, of which the second may not have to be there
abbrev pub files_app : Text → Bool → App
files_app name has_script = with_rule (with_rule (new_app name) (path_rule (codes "CONFIG") true)) (path_rule (codes "SCRIPT") has_script)

abbrev pub run_app : App
run_app = with_rule (with_rule (with_rule (with_rule (with_rule (with_rule (files_app (codes "run") true) workers_rule) seed_rule) (flag_rule (codes "serial"))) format_rule) (flag_rule (codes "strict"))) explain_rule

abbrev pub check_app : App
check_app = with_rule (with_rule (with_rule (files_app (codes "check") false) (flag_rule (codes "strict"))) (flag_rule (codes "all"))) explain_rule

abbrev pub capacity_rule : Rule
capacity_rule = record (new_rule (codes "capacity")) { long = Some (codes "capacity"); required = true; action = Some Set; value_names = 1 }

abbrev pub replay_app : App
replay_app = with_rule (with_rule (with_rule (with_rule (new_app (codes "replay")) (path_rule (codes "TRACE") true)) capacity_rule) format_rule) explain_rule

-- the words begin after the program's name, one of them has to be a subcommand, and there is a version to print, behind a
-- subcommand too
abbrev pub bare_app : App
bare_app = record (new_app (codes "jcache")) { top = record (new_app (codes "jcache")).top { propagate_version = true; has_version = true; no_binary_name = true; subcommand_required = true } }

abbrev pub program : App
program = with_subcommand (with_subcommand (with_subcommand bare_app run_app.top) check_app.top) replay_app.top

-- What is asked.

-- the texts, or bytes, that are lent
abbrev pub texts_lent : List (Bor (List ℕ)) → List Text
texts_lent texts = map (λ text. text.now) texts

-- the rows of matches
abbrev pub rows_in_matches : ArgMatches → List Row
rows_in_matches matches = rows_of (found_of matches)

-- a text as `str::parse` reads it
abbrev pub IsNumber : Option Text → ℕ → Type 0
IsNumber None n = ⊥
IsNumber (Some text) n = IsNumeral 10 (without_leading_plus text) × (digits_value 10 (without_leading_plus text) ≡ n)

abbrev pub truth : Bool → Text
truth true = codes "true"
truth false = codes "false"

abbrev pub format_text : Format → Text
format_text form.Text = codes "text"
format_text form.Json = codes "json"

abbrev pub explain_text : Explain → Text
explain_text explain.Always = codes "always"
explain_text explain.Never = codes "never"
explain_text explain.Auto = codes "auto"

-- whether a fault is explained, where standard error is a terminal or not
abbrev pub explains : Bool → Explain → Bool
explains at_terminal explain.Always = true
explains at_terminal explain.Never = false
explains at_terminal explain.Auto = at_terminal

-- a text says of no time when a fault is explained
abbrev pub SaysNoExplain : Text → Type 0
SaysNoExplain text = (explain : Explain) → text ≢ explain_text explain

-- rows of matches say it of this one, or of none
abbrev pub NamesExplain : List Row → Explain → Type 0
NamesExplain rows explain = first_of (codes "explain") rows ≡ Some (explain_text explain)

abbrev pub NamesNoExplain : List Row → Type 0
NamesNoExplain rows = (explain : Explain) → first_of (codes "explain") rows ≢ Some (explain_text explain)

-- a text is no form's
abbrev pub SaysNoFormat : Text → Type 0
SaysNoFormat text = (form : Format) → text ≢ format_text form

-- rows of matches name this form, or none
abbrev pub NamesFormat : List Row → Format → Type 0
NamesFormat rows form = first_of (codes "format") rows ≡ Some (format_text form)

abbrev pub NamesNoFormat : List Row → Type 0
NamesNoFormat rows = (form : Format) → first_of (codes "format") rows ≢ Some (format_text form)

-- the options in rows of matches
pub record AsksOptions (rows : List Row) (options : Options) : Type 0 where
  pub workers : IsNumber (one_of (codes "workers") rows) options.workers
  pub seed : IsNumber (one_of (codes "seed") rows) options.seed
  pub serial : one_of (codes "serial") rows ≡ Some (truth options.serial)
  pub format : first_of (codes "format") rows ≡ Some (format_text options.format)
  pub strict : one_of (codes "strict") rows ≡ Some (truth options.strict)
  pub explain : first_of (codes "explain") rows ≡ Some (explain_text options.explain)

abbrev pub options_of : Run → Options
options_of run = record { workers = run.workers; seed = run.seed; serial = run.serial; format = run.format; strict = run.strict; explain = run.explain }

-- where the value of an id came from, and whether that is the words
abbrev pub source_of : Text → List Row → Option ValueSource
source_of id rows = option_and_then (λ r. r.source) (find (λ r. bytes_eq r.id id) rows)

abbrev pub is_of_words : Option ValueSource → Bool
is_of_words None = false
is_of_words (Some DefaultValue) = false
is_of_words (Some CommandLine) = true

abbrev pub is_in_words : Text → List Row → Bool
is_in_words id rows = is_of_words (source_of id rows)

-- a path that stands for standard input
abbrev pub is_input : Text → Bool
is_input path = bytes_eq path (codes "-")

abbrev pub may_be_input : Option Text → Bool
may_be_input None = false
may_be_input (Some path) = is_input path

-- what of rows of matches can't stand together
abbrev pub clash_of : List Row → Option Clash
clash_of rows =
    if is_in_words (codes "serial") rows && is_in_words (codes "workers") rows then Some clash.Threads else
    (if may_be_input (first_of (codes "CONFIG") rows) && may_be_input (first_of (codes "SCRIPT") rows) then Some clash.Inputs else None)

-- the run that rows of matches ask for
pub record AsksRun (rows : List Row) (run : Run) : Type 0 where
  pub config : first_of (codes "CONFIG") rows ≡ Some (string_bytes run.config)
  pub script : first_of (codes "SCRIPT") rows ≡ Some (string_bytes run.script)
  pub options : AsksOptions rows (options_of run)

-- the same of a check, which may be of a configuration alone
pub record AsksCheck (rows : List Row) (check : Check) : Type 0 where
  pub config : first_of (codes "CONFIG") rows ≡ Some (string_bytes check.config)
  pub script : first_of (codes "SCRIPT") rows ≡ option_map string_bytes check.script
  pub strict : one_of (codes "strict") rows ≡ Some (truth check.strict)
  pub all : one_of (codes "all") rows ≡ Some (truth check.all)
  pub explain : first_of (codes "explain") rows ≡ Some (explain_text check.explain)

-- how many rows a cache may have
abbrev pub IsRowCount : ℕ → Type 0
IsRowCount n = (1 ≤ n) × (n ≤ 65536)

-- a text is this capacity, or none
abbrev pub SaysCapacity : Text → ℕ → Type 0
SaysCapacity text n = IsNumber (Some text) n × IsRowCount n

abbrev pub SaysNoCapacity : Text → Type 0
SaysNoCapacity text = (n : ℕ) → IsNumber (Some text) n → IsRowCount n → ⊥

-- each text is a capacity
abbrev pub AreCapacities : List Text → List ℕ → Type 0
AreCapacities [] [] = ⊤
AreCapacities (text ∷ texts) (n ∷ ns) = SaysCapacity text n × AreCapacities texts ns
AreCapacities _ _ = ⊥

-- they are no capacities
abbrev pub AreNoCapacities : List Text → Type 0
AreNoCapacities texts = (ns : List ℕ) → AreCapacities texts ns → ⊥

-- the texts between commas
abbrev pub between_commas : Text → List Text
between_commas list = slice_split (λ b. b == 44) list

-- a list of capacities, with a comma between two
abbrev pub ListsCapacities : Option Text → List ℕ → Type 0
ListsCapacities None ns = ⊥
ListsCapacities (Some text) ns = AreCapacities (between_commas text) ns

-- it lists none
abbrev pub ListsNoCapacities : Option Text → Type 0
ListsNoCapacities list = (ns : List ℕ) → ListsCapacities list ns → ⊥

-- the replay that rows of matches ask for
pub record AsksReplay (rows : List Row) (replay : Replay) : Type 0 where
  pub trace : first_of (codes "TRACE") rows ≡ Some (string_bytes replay.trace)
  pub capacities : ListsCapacities (first_of (codes "capacity") rows) replay.capacities.items
  pub format : first_of (codes "format") rows ≡ Some (format_text replay.format)
  pub explain : first_of (codes "explain") rows ≡ Some (explain_text replay.explain)

-- what a subcommand and its matches ask for
abbrev pub AsksBy : Text × List Row → Asked → Type 0
AsksBy p (asked.Run run) = (p.0 ≡ codes "run") × AsksRun p.1 run
AsksBy p (asked.Check check) = (p.0 ≡ codes "check") × AsksCheck p.1 check
AsksBy p (asked.Replay replay) = (p.0 ≡ codes "replay") × AsksReplay p.1 replay

-- the words with `--explain` written out; words behind `--` are paths
abbrev pub whole_form : Text → Text
whole_form word = if bytes_eq word (codes "--explain") then codes "--explain=always" else word

abbrev pub written_out : List Text → List Text
written_out [] = []
written_out (word ∷ words) = if bytes_eq word (codes "--") then word ∷ words else whole_form word ∷ written_out words

-- words that are written out name the subcommand, its matches ask for this, and they can stand together
abbrev pub AsksInFull : List Text → Asked → Type 0
AsksInFull words a = (p : Text × List Row) × (subcommand_of program words ≡ Some p) × (clash_of p.1 ≡ None) × AsksBy p a

abbrev pub AsksFor : List Text → Asked → Type 0
AsksFor words a = AsksInFull (written_out words) a

-- the words name a subcommand, and its matches can't stand together
abbrev pub Clashes : List Text → Type 0
Clashes words = (p : Text × List Row) × (subcommand_of program words ≡ Some p) × (clash_of p.1 ≢ None)

-- where they name one, its matches can stand together
abbrev pub StandTogether : List Text → Type 0
StandTogether words = (p : Text × List Row) → subcommand_of program words ≡ Some p → clash_of p.1 ≡ None

abbrev pub IsWithinLimits : Options → Type 0
IsWithinLimits options = (1 ≤ options.workers) × (options.workers ≤ 8) × (options.seed < 2 ^ 63)

-- a check has no numbers
abbrev pub KeepsLimits : Asked → Type 0
KeepsLimits (asked.Run run) = IsWithinLimits (options_of run)
KeepsLimits (asked.Check check) = ⊤
KeepsLimits (asked.Replay replay) = All IsRowCount replay.capacities.items

-- rows of matches that ask for no options, for no run, for no check, for no replay
abbrev pub HaveNoOptions : List Row → Type 0
HaveNoOptions rows = (options : Options) → AsksOptions rows options → IsWithinLimits options → ⊥

abbrev pub HaveNoRun : List Row → Type 0
HaveNoRun rows = (run : Run) → AsksRun rows run → IsWithinLimits (options_of run) → ⊥

abbrev pub HaveNoCheck : List Row → Type 0
HaveNoCheck rows = (check : Check) → AsksCheck rows check → ⊥

abbrev pub HaveNoReplay : List Row → Type 0
HaveNoReplay rows = (replay : Replay) → AsksReplay rows replay → ⊥

-- a subcommand and its matches, or words, that ask for nothing
abbrev pub AsksForNone : Text × List Row → Type 0
AsksForNone p = (a : Asked) → AsksBy p a → KeepsLimits a → ⊥

abbrev pub AskForNone : List Text → Type 0
AskForNone words = (a : Asked) → AsksInFull words a → KeepsLimits a → ⊥

-- what a word says of explanations, if it does
abbrev pub says_explain : Text → Option Explain
says_explain word =
    if bytes_eq word (codes "--explain") || bytes_eq word (codes "--explain=always") then Some explain.Always else
    (if bytes_eq word (codes "--explain=never") then Some explain.Never else None)

-- whether words ask for explanations, also where they are mistaken; the first that speaks of them counts
abbrev pub first_explain : List Text → Explain
first_explain [] = explain.Auto
first_explain (word ∷ words) = unwrap_or (says_explain word) (first_explain words)

abbrev pub asks_to_explain : Bool → List Text → Bool
asks_to_explain at_terminal words = explains at_terminal (first_explain words)

-- A kind of fault that `clap` has for the words, or want of memory; or that some of them can't stand together; or, where
-- they can, that they ask for nothing.
abbrev pub MayRefuseInFull : List Text → Error → Type 0
MayRefuseInFull words e =
    HasKind (fault_of program words) e
    ⊎ ((HasKind (kinds.ArgumentConflict ∷ []) e × Clashes words) ⊎ (HasKind (kinds.InvalidSubcommand ∷ []) e × StandTogether words × AskForNone words))

abbrev pub MayRefuse : List Text → Error → Type 0
MayRefuse words e = MayRefuseInFull (written_out words) e
