-- How the program ends: the status, and what standard error says.
use Rattle.std.specs.Bool.{OnTrue}
use Rattle.std.specs.Prelude.{Bool, true, false, not, ◌&&◌, if◌then◌else◌, ◌≡◌, ◌≢◌, ◌⊎◌, ℕ, Option, Some, None, List, ◌++◌, Result, Ok, Err, String, codes, string_bytes}
use Rattle.std.specs.declared.alloc.Global.{Global}
use Rattle.clap.specs.Words.{kind_of}
use Rattle.clap.specs.declared.error.kind.ErrorKind.TheVariants as kinds
use Rattle.jc_cli.specs.Faults.{fault_line, explained_line, listed_line, is_of_config, is_of_report}
use Rattle.jc_cli.specs.declared.asked.Check.{Check}
use Rattle.jc_cli.specs.Meters.{next_count_if}
use Rattle.jc_cli.specs.Watching.{AddsText, IsGivenText}
use Rattle.jc_cli.specs.declared.ending.Ending.{Ending}
use Rattle.jc_cli.specs.declared.ending.Ending.TheVariants.{Done, Faulty, Explained, Listed, Refused, Mistaken, NotText}
use Rattle.jc_cli.specs.declared.fault.ProgramFault.{ProgramFault}
use Rattle.jc_cli.specs.declared.fault.ProgramFault.TheVariants.{Run}
use Rattle.jc_cli.specs.declared.fault.RunFault.TheVariants.{Memory}
use Rattle.jc_cli.specs.declared.output.WatchedWriter.{WatchedWriter}

-- a fault is told alone, or explained, with the path of its file
abbrev pub fault_ending : Bool → String Global → ProgramFault → Ending
fault_ending false path fault = Faulty fault
fault_ending true path fault = Explained fault path

abbrev pub ending_of : {T : Type 0} → Bool → (ProgramFault → String Global) → Result T ProgramFault → Ending
ending_of explain path_of (Ok done) = Done
ending_of explain path_of (Err fault) = fault_ending explain (path_of fault) fault

-- the path of the file in which a fault is: that of the configuration, or of the script
abbrev pub path_of : String Global → String Global → ProgramFault → String Global
path_of config script fault = if is_of_config fault then config else script

-- where there is no script, it is the configuration's
abbrev pub checked_path : String Global → Option (String Global) → ProgramFault → String Global
checked_path config None fault = config
checked_path config (Some script) fault = path_of config script fault

-- a fault of files that were checked, alone or with all that stand behind it
abbrev pub checked_ending : Bool → Check → ProgramFault → Ending
checked_ending explain check fault =
    let path = checked_path check.config check.script fault in
    if check.all then Listed fault path explain check.strict else fault_ending explain path fault

abbrev pub ending_of_check : {T : Type 0} → Bool → Check → Result T ProgramFault → Ending
ending_of_check explain check (Ok done) = Done
ending_of_check explain check (Err fault) = checked_ending explain check fault

-- a fault that is not explained
abbrev pub plain_ending : {T : Type 0} → Result T ProgramFault → Ending
plain_ending (Ok done) = Done
plain_ending (Err fault) = Faulty fault

abbrev pub memory_ending : Ending
memory_ending = Faulty (Run Memory)

-- nobody reads the report any more
abbrev pub is_unheard : ProgramFault → Bool → Bool
is_unheard fault unheard = is_of_report fault && unheard

-- where something could not be written: as a shell has it of a program that was ended by the signal of a closed pipe
abbrev pub unwritten_status : Bool → ℕ
unwritten_status unheard = if unheard then 141 else 1

-- Help and the version are no mistakes, and a success where they were written. The second test is whether nobody reads
-- standard output any more.
abbrev pub HasStatus : Ending → Bool → Bool → ℕ → Type 0
HasStatus Done told unheard status = status ≡ 0
HasStatus (Faulty fault) told unheard status = status ≡ unwritten_status (is_unheard fault unheard)
HasStatus (Explained fault path) told unheard status = status ≡ unwritten_status (is_unheard fault unheard)
HasStatus (Listed fault path explain strict) told unheard status = status ≡ unwritten_status (is_unheard fault unheard)
HasStatus (Refused e) told unheard status =
    ((kind_of e ≡ kinds.DisplayHelp) ⊎ (kind_of e ≡ kinds.DisplayVersion) → status ≡ (if told then 0 else unwritten_status unheard))
    × (kind_of e ≢ kinds.DisplayHelp → kind_of e ≢ kinds.DisplayVersion → status ≡ 2)
HasStatus (Mistaken text) told unheard status = status ≡ 2
HasStatus NotText told unheard status = status ≡ 2

-- what is told of words of which one is no text
abbrev pub no_text_line : List ℕ
no_text_line = codes "error: a word is not UTF-8\n"

-- the writer was given a text, and took it or failed
abbrev pub IsGiven : {W : Type 0} → Bool → WatchedWriter W → WatchedWriter W → Type 0
IsGiven told old new = IsGivenText old new × (new.failures ≡ next_count_if (not told) old.failures)

-- What standard error says, or that its writer failed; what a refusal says is `clap`'s, where it is not told under the
-- program's name.
module _ {E : Type 0} (said : E → Option (List ℕ)) where
  abbrev pub TellsLine : List ℕ → Bool → WatchedWriter E → WatchedWriter E → Type 0
  TellsLine line told old new = OnTrue told (AddsText said old new line) × (new.failures ≡ next_count_if (not told) old.failures)

  abbrev pub SaysNothing : Bool → WatchedWriter E → WatchedWriter E → Type 0
  SaysNothing told old new = (told ≡ true) × (new ≡ old)

  -- where a script is awaited from a person, that it is
  abbrev pub Greets : Bool → Bool → WatchedWriter E → WatchedWriter E → Type 0
  Greets true told old new = TellsLine (codes "jcache: reads a script from this terminal until its end (Ctrl-D); --help tells more\n") told old new
  Greets false told old new = SaysNothing told old new

  -- a fault, which is not told where nobody reads the report any more
  abbrev pub SaysFault : Bool → List ℕ → Bool → WatchedWriter E → WatchedWriter E → Type 0
  SaysFault true lines told old new = SaysNothing told old new
  SaysFault false lines told old new = TellsLine lines told old new

  -- nothing where there is nothing to say; the lines only below a fault that is to be explained or has others behind it
  abbrev pub SaysSo : List ℕ → Ending → Bool → Bool → WatchedWriter E → WatchedWriter E → Type 0
  SaysSo lines Done told unheard old new = SaysNothing told old new
  SaysSo lines (Faulty fault) told unheard old new = SaysFault (is_unheard fault unheard) (fault_line fault) told old new
  SaysSo lines (Explained fault path) told unheard old new = SaysFault (is_unheard fault unheard) (explained_line fault lines) told old new
  SaysSo lines (Listed fault path explain strict) told unheard old new = SaysFault (is_unheard fault unheard) (listed_line explain fault lines) told old new
  SaysSo lines (Refused e) told unheard old new =
      ((kind_of e ≡ kinds.DisplayHelp) ⊎ (kind_of e ≡ kinds.DisplayVersion) → new ≡ old) × (kind_of e ≢ kinds.DisplayHelp → kind_of e ≢ kinds.DisplayVersion → IsGiven told old new)
  SaysSo lines (Mistaken text) told unheard old new = TellsLine (codes "jcache: " ++ string_bytes text) told old new
  SaysSo lines NotText told unheard old new = TellsLine no_text_line told old new

-- a text was written and flushed, or its writer failed
abbrev pub IsPrinted : {O : Type 0} → Bool → WatchedWriter O → WatchedWriter O → Type 0
IsPrinted told old new = OnTrue told (new.flushed ≡ true) × IsGiven told old new

-- only help and the version go to standard output
abbrev pub Leaves : {O : Type 0} → Ending → Bool → WatchedWriter O → WatchedWriter O → Type 0
Leaves (Refused e) told old new =
    ((kind_of e ≡ kinds.DisplayHelp) ⊎ (kind_of e ≡ kinds.DisplayVersion) → IsPrinted told old new)
    × (kind_of e ≢ kinds.DisplayHelp → kind_of e ≢ kinds.DisplayVersion → new ≡ old)
Leaves _ told old new = new ≡ old
