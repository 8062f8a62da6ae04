-- What the program does with its words, its files and its streams.
use Rattle.std.specs.Prelude.{Bool, true, false, ◌&&◌, ◌==◌, if◌then◌else◌, ◌≡◌, ◌≢◌, ◌⊎◌, ℕ, List, [], ◌∷◌, length, Option, Some, None, IfSome, Result, Ok, Err, String, string_bytes, ⊤}
use Rattle.std.specs.Io.KnownBytes.{IsAtEnd}
use Rattle.std.specs.declared.alloc.Global.{Global}
use Rattle.clap.specs.Words.{Text, kind_of}
use Rattle.clap.specs.declared.error.Error.{Error}
use Rattle.clap.specs.declared.error.kind.ErrorKind.TheVariants.{DisplayHelp, DisplayVersion, OutOfMemory}
use Rattle.jc_config.specs.declared.kinds.Configuration.{Configuration}
use Rattle.jc_config.specs.declared.kinds.HookKinds.{HookKinds}
use Rattle.jc_hooks.specs.Processors.{program_verdict}
use Rattle.jc_hooks.specs.Program.{echo_answer, AllChecked}
use Rattle.jc_model.specs.declared.config.CacheConfig.{CacheConfig}
use Rattle.jc_replay.specs.declared.fault.ReplayFault.{ReplayFault}
use Rattle.jc_replay.specs.Table.{replay_table}
use Rattle.jc_replay.specs.TableJson.{replay_json}
use Rattle.jc_script.specs.declared.line.Line.{Line}
use Rattle.jc_script.specs.Script.{lines}
use Rattle.jc_cli.specs.Note.{TellsMistake}
use Rattle.jc_cli.specs.Program.{AsksFor, MayRefuse, asks_to_explain, explains, is_input}
use Rattle.jc_cli.specs.declared.asked.Asked.TheVariants as asks
use Rattle.jc_cli.specs.declared.asked.Check.{Check}
use Rattle.jc_cli.specs.declared.asked.Replay.{Replay}
use Rattle.jc_cli.specs.declared.run.Format.{Format}
use Rattle.jc_cli.specs.declared.run.Format.TheVariants as format
use Rattle.jc_cli.specs.declared.run.Run.{Run}
use Rattle.jc_runner.specs.Demonstration.{demonstration_caches}
use Rattle.jc_runner.specs.Disks.{IsFileFound, FailsToOpen, AsksForPath}
use Rattle.jc_cli.specs.Endings.{ending_of, ending_of_check, path_of, plain_ending, memory_ending, HasStatus, SaysSo, Leaves}
use Rattle.jc_runner.specs.Forms.{form_of}
use Rattle.jc_cli.specs.Meters.{most_reads, AddsAtMost}
use Rattle.jc_runner.specs.Naming.{ProgramHooks, AllHooksNamed, heard_by}
use Rattle.jc_runner.specs.Reports.{ReportsOf}
use Rattle.jc_runner.specs.Strictness.{HasNoStray, HasStray}
use Rattle.jc_runner.specs.Texts.{IsConfiguration, ConfigHasFault, ScriptIsGood, ScriptHasFault}
use Rattle.jc_runner.specs.Together.{stated_of, GathersSo}
use Rattle.jc_cli.specs.Watching.{unread_reader, InputIsTooLong, ReadFails, AddsText, AddsFront, AddsNothing, WriteFails}
use Rattle.jc_cli.specs.declared.ending.Ended.{Ended}
use Rattle.jc_cli.specs.declared.ending.Ending.{Ending}
use Rattle.jc_cli.specs.declared.ending.Ending.TheVariants.{Refused, Mistaken, NotText}
use Rattle.jc_cli.specs.declared.ending.WordsFault.{WordsFault}
use Rattle.jc_cli.specs.declared.ending.WordsFault.TheVariants as fault
use Rattle.jc_cli.specs.declared.fault.ProgramFault.{ProgramFault}
use Rattle.jc_cli.specs.declared.fault.ProgramFault.TheVariants as program
use Rattle.jc_cli.specs.declared.fault.RunFault.{RunFault}
use Rattle.jc_cli.specs.declared.fault.RunFault.TheVariants as run
use Rattle.jc_runner.specs.declared.command.streams.Opened.{Opened}
use Rattle.jc_runner.specs.declared.command.streams.Standard.{Standard}
use Rattle.jc_cli.specs.declared.input.WatchedReader.{WatchedReader}
use Rattle.jc_cli.specs.declared.output.WatchedWriter.{WatchedWriter}

-- the report of a script, with fresh callbacks of the kinds that the configuration names, of which this is true
pub record ReportsSerially (format : Format) (c : Configuration) (script : List ℕ) (IsSo : List ℕ → Type 0) : Type 0 where
  pub hooks : List ProgramHooks
  pub hooks' : List ProgramHooks
  pub named : AllHooksNamed c.settings c.hooks hooks
  pub reports : ReportsOf (λ l. echo_answer) (λ w given. AllChecked given) program_verdict heard_by format c.settings script hooks hooks' IsSo

-- the same of a run on worker threads
pub record GathersFromWorkers (format : Format) (c : Configuration) (script : List ℕ) (IsSo : List ℕ → Type 0) : Type 0 where
  pub hooks : List ProgramHooks
  pub named : AllHooksNamed c.settings c.hooks hooks
  pub all : List Line
  pub read : lines c.settings script ≡ Ok all
  pub gathers : GathersSo (form_of format script all) (stated_of (λ l. echo_answer) program_verdict hooks) c.settings all IsSo

-- by one thread, or by workers
abbrev pub ReportsOneWay : Bool → Format → Configuration → List ℕ → (List ℕ → Type 0) → Type 0
ReportsOneWay true format c script IsSo = ReportsSerially format c script IsSo
ReportsOneWay false format c script IsSo = GathersFromWorkers format c script IsSo

-- what is not told as a failed reading came without one
abbrev pub HasNotFailed : {T E F : Type 0} → E → Result T E → WatchedReader F → WatchedReader F → Type 0
HasNotFailed fault result old new = result ≢ Err fault → new.failures ≡ old.failures

-- A script that is read and run, by one thread or by workers, reject_unknown_members or not, and reported in a form: how that ends.
module _ {I O : Type 0} (remaining : I → Option (List ℕ)) (contents : O → Option (List ℕ)) (serial strict : Bool) (format : Format) (c : Configuration) (reader reader' : WatchedReader I) (writer writer' : WatchedWriter O) where
  abbrev pub RunEnds : Result (Unit {0}) RunFault → Type 0
  RunEnds (Ok done) =
      IfSome (remaining reader.inner) (λ script. ReportsOneWay serial format c script (AddsText contents writer writer'))
      × HasNoStray strict (remaining reader.inner) × IsAtEnd (remaining reader'.inner) × (writer'.failures ≡ writer.failures) × (writer'.flushed ≡ true)
  RunEnds (Err run.Read) = ReadFails reader reader' × AddsNothing contents writer writer'
  RunEnds (Err run.TooLong) = InputIsTooLong remaining reader × AddsNothing contents writer writer'
  RunEnds (Err (run.Script fault)) = ScriptHasFault remaining c.settings reader fault × AddsNothing contents writer writer'
  RunEnds (Err (run.Entry n)) = HasStray strict c.settings (remaining reader.inner) n × AddsNothing contents writer writer'
  RunEnds (Err run.Open) = ⊥
  RunEnds (Err run.Close) = (serial ≡ false) × AddsNothing contents writer writer'
  RunEnds (Err run.Write) =
      IfSome (remaining reader.inner) (λ script. ReportsOneWay serial format c script (AddsFront contents writer writer'))
      × HasNoStray strict (remaining reader.inner) × WriteFails writer writer'
  RunEnds (Err run.Memory) = AddsNothing contents writer writer'

-- A script that is read and not run: how that ends.
module _ {I : Type 0} (remaining : I → Option (List ℕ)) (strict : Bool) (caches : List CacheConfig) (reader reader' : WatchedReader I) where
  abbrev pub LinesEnd : Result (Unit {0}) RunFault → Type 0
  LinesEnd (Ok done) = ScriptIsGood remaining caches reader × HasNoStray strict (remaining reader.inner) × IsAtEnd (remaining reader'.inner)
  LinesEnd (Err run.Read) = ReadFails reader reader'
  LinesEnd (Err run.TooLong) = InputIsTooLong remaining reader
  LinesEnd (Err (run.Script fault)) = ScriptHasFault remaining caches reader fault
  LinesEnd (Err (run.Entry n)) = HasStray strict caches (remaining reader.inner) n
  LinesEnd (Err run.Memory) = ⊤
  LinesEnd (Err _) = ⊥

-- A configuration that is read.
module _ {I : Type 0} (remaining : I → Option (List ℕ)) (reader reader' : WatchedReader I) where
  abbrev pub ConfigRead : Result Configuration ProgramFault → Type 0
  ConfigRead (Ok c) = IsConfiguration remaining reader c × IsAtEnd (remaining reader'.inner)
  ConfigRead (Err program.ConfigRead) = ReadFails reader reader'
  ConfigRead (Err (program.Config fault)) = ConfigHasFault remaining reader fault
  ConfigRead (Err (program.Run fault)) = fault ≡ run.Memory
  ConfigRead (Err _) = ⊥

-- A file that holds this.
module _ {F : Type 0} (remaining : F → Option (List ℕ)) (held : Option (Option (List ℕ))) where
  -- it was opened, and not read yet
  abbrev pub IsUnreadFile : WatchedReader F → Type 0
  IsUnreadFile reader = (reader ≡ unread_reader reader.inner) × IsFileFound held (remaining reader.inner)

  -- the file does not open, or it is read to its end or its fault
  abbrev pub ConfigEnds : Option (WatchedReader F) → Result Configuration ProgramFault → Type 0
  ConfigEnds None result = FailsToOpen (Err program.ConfigRead) (Err (program.Run run.Memory)) held result
  ConfigEnds (Some reader) result =
      (file : F) × IsFileFound held (remaining file) × AddsAtMost most_reads 0 reader.reads × HasNotFailed program.ConfigRead result (unread_reader file) reader × ConfigRead remaining (unread_reader file) reader result

  -- the same of the script
  module _ {O : Type 0} (contents : O → Option (List ℕ)) (serial strict : Bool) (format : Format) (c : Configuration) (writer writer' : WatchedWriter O) where
    abbrev pub ScriptEnds : Option (WatchedReader F) → Result (Unit {0}) RunFault → Type 0
    ScriptEnds None result = FailsToOpen (Err run.Read) (Err run.Memory) held result × AddsNothing contents writer writer'
    ScriptEnds (Some reader) result =
        (file : F) × IsFileFound held (remaining file) × AddsAtMost most_reads 0 reader.reads × HasNotFailed run.Read result (unread_reader file) reader
        × RunEnds remaining contents serial strict format c (unread_reader file) reader writer writer' result

  -- of a script that is not run
  abbrev pub ScriptRead : Bool → List CacheConfig → Option (WatchedReader F) → Result (Unit {0}) RunFault → Type 0
  ScriptRead strict caches None result = FailsToOpen (Err run.Read) (Err run.Memory) held result
  ScriptRead strict caches (Some reader) result =
      (file : F) × IsFileFound held (remaining file) × AddsAtMost most_reads 0 reader.reads × HasNotFailed run.Read result (unread_reader file) reader × LinesEnd remaining strict caches (unread_reader file) reader result

-- What a path names: standard input, for which the disk is not asked, or a file. Standard input is read on from where it
-- stands.
module _ {F I : Type 0} (of_file : F → Option (List ℕ)) (of_input : I → Option (List ℕ)) (held : Option (Option (List ℕ))) (path : List ℕ) (asked asked' : Option (List (List ℕ))) (input input' : WatchedReader I) where
  abbrev pub ConfigFrom : Bool → Option (WatchedReader F) → Result Configuration ProgramFault → Type 0
  ConfigFrom true opened result =
      (opened ≡ None) × (asked' ≡ asked) × AddsAtMost most_reads input.reads input'.reads × HasNotFailed program.ConfigRead result input input' × ConfigRead of_input input input' result
  ConfigFrom false opened result = (input' ≡ input) × AsksForPath asked asked' path × ConfigEnds of_file held opened result

  module _ {O : Type 0} (contents : O → Option (List ℕ)) (serial strict : Bool) (format : Format) (c : Configuration) (writer writer' : WatchedWriter O) where
    abbrev pub ScriptFrom : Bool → Option (WatchedReader F) → Result (Unit {0}) RunFault → Type 0
    ScriptFrom true opened result =
        (opened ≡ None) × (asked' ≡ asked) × AddsAtMost most_reads input.reads input'.reads × HasNotFailed run.Read result input input'
        × RunEnds of_input contents serial strict format c input input' writer writer' result
    ScriptFrom false opened result = (input' ≡ input) × AsksForPath asked asked' path × ScriptEnds of_file held contents serial strict format c writer writer' opened result

  abbrev pub LinesFrom : Bool → List CacheConfig → Bool → Option (WatchedReader F) → Result (Unit {0}) RunFault → Type 0
  LinesFrom strict caches true opened result =
      (opened ≡ None) × (asked' ≡ asked) × AddsAtMost most_reads input.reads input'.reads × HasNotFailed run.Read result input input' × LinesEnd of_input strict caches input input' result
  LinesFrom strict caches false opened result = (input' ≡ input) × AsksForPath asked asked' path × ScriptRead of_file held strict caches opened result

-- The same of the path itself, by what the disk holds there.
module _ {F I : Type 0} (of_file : F → Option (List ℕ)) (of_input : I → Option (List ℕ)) (holds : List ℕ → Option (Option (List ℕ))) (path : List ℕ) (asked asked' : Option (List (List ℕ))) (input input' : WatchedReader I) where
  abbrev pub ConfigAt : Option (WatchedReader F) → Result Configuration ProgramFault → Type 0
  ConfigAt opened result = ConfigFrom of_file of_input (holds path) path asked asked' input input' (is_input path) opened result

  abbrev pub LinesAt : Bool → List CacheConfig → Option (WatchedReader F) → Result (Unit {0}) RunFault → Type 0
  LinesAt strict caches opened result = LinesFrom of_file of_input (holds path) path asked asked' input input' strict caches (is_input path) opened result

-- the script that the words name, run as they ask for it
module _ {F I O : Type 0} (of_file : F → Option (List ℕ)) (of_input : I → Option (List ℕ)) (contents : O → Option (List ℕ)) (holds : List ℕ → Option (Option (List ℕ))) (run : Run) (c : Configuration) where
  abbrev pub AskedScriptEnds : Option (List (List ℕ)) → Option (List (List ℕ)) → WatchedReader I → WatchedReader I → WatchedWriter O → WatchedWriter O → Option (WatchedReader F) → Result (Unit {0}) RunFault → Type 0
  AskedScriptEnds asked asked' input input' writer writer' opened result =
      ScriptFrom of_file of_input (holds (string_bytes run.script)) (string_bytes run.script) asked asked' input input' contents run.serial run.strict run.format c writer writer' (is_input (string_bytes run.script)) opened result

abbrev pub as_program : Result (Unit {0}) RunFault → Result (Unit {0}) ProgramFault
as_program (Ok done) = Ok done
as_program (Err fault) = Err (program.Run fault)

-- what was read as a configuration, where one without caches is refused if that is asked for
abbrev pub allowed_config : Bool → Result Configuration ProgramFault → Result Configuration ProgramFault
allowed_config strict (Err fault) = Err fault
allowed_config strict (Ok c) = if strict && (length c.settings == 0) then Err program.NoCaches else Ok c

-- the two files of a run: what the disk holds, what it was asked for, and how they were read
module _ {F I O : Type 0} (of_file : F → Option (List ℕ)) (of_input : I → Option (List ℕ)) (contents : O → Option (List ℕ)) (holds : List ℕ → Option (Option (List ℕ))) (asked asked' : Option (List (List ℕ))) (run : Run)
    (config script : Option (WatchedReader F)) (input input' : WatchedReader I) (writer writer' : WatchedWriter O) where
  -- after the configuration's fault no script is asked for
  abbrev pub GoesOnToScript : Option (List (List ℕ)) → WatchedReader I → Result Configuration ProgramFault → Result (Unit {0}) ProgramFault → Type 0
  GoesOnToScript before between (Err fault) result = (result ≡ Err fault) × (script ≡ None) × (asked' ≡ before) × (input' ≡ between) × AddsNothing contents writer writer'
  GoesOnToScript before between (Ok c) result =
      (ran : Result (Unit {0}) RunFault) × (result ≡ as_program ran)
      × AskedScriptEnds of_file of_input contents holds run c before asked' between input' writer writer' script ran

  pub record FilesEnd (result : Result (Unit {0}) ProgramFault) : Type 0 where
    pub before : Option (List (List ℕ))
    pub between : WatchedReader I
    pub read : Result Configuration ProgramFault
    pub reads : ConfigAt of_file of_input holds (string_bytes run.config) asked before input between config read
    pub goes_on : GoesOnToScript before between (allowed_config run.strict read) result

-- the files of a check, of which the second may be left out: the same, and nothing is run
module _ {F I : Type 0} (of_file : F → Option (List ℕ)) (of_input : I → Option (List ℕ)) (holds : List ℕ → Option (Option (List ℕ))) (asked asked' : Option (List (List ℕ))) (check : Check)
    (config script : Option (WatchedReader F)) (input input' : WatchedReader I) where
  -- a path that is not there is not asked for, and has no fault
  abbrev pub ReadsAt : Option (List (List ℕ)) → WatchedReader I → List CacheConfig → Option (String Global) → Result (Unit {0}) RunFault → Type 0
  ReadsAt before between caches None read = (read ≡ Ok tt) × (script ≡ None) × (asked' ≡ before) × (input' ≡ between)
  ReadsAt before between caches (Some path) read = LinesAt of_file of_input holds (string_bytes path) before asked' between input' check.strict caches script read

  abbrev pub ReadsOnToScript : Option (List (List ℕ)) → WatchedReader I → Result Configuration ProgramFault → Result (Unit {0}) ProgramFault → Type 0
  ReadsOnToScript before between (Err fault) result = (result ≡ Err fault) × (script ≡ None) × (asked' ≡ before) × (input' ≡ between)
  ReadsOnToScript before between (Ok c) result = (read : Result (Unit {0}) RunFault) × (result ≡ as_program read) × ReadsAt before between c.settings check.script read

  pub record CheckEnds (result : Result (Unit {0}) ProgramFault) : Type 0 where
    pub before : Option (List (List ℕ))
    pub between : WatchedReader I
    pub read : Result Configuration ProgramFault
    pub reads : ConfigAt of_file of_input holds (string_bytes check.config) asked before input between config read
    pub goes_on : ReadsOnToScript before between (allowed_config check.strict read) result

-- the table of a trace's replay, in its form
abbrev pub table_in : Format → List ℕ → List ℕ → Result (List ℕ) ReplayFault
table_in format.Text trace capacities = replay_table trace capacities
table_in format.Json trace capacities = replay_json trace capacities

abbrev pub table_of : Replay → List ℕ → Result (List ℕ) ReplayFault
table_of replay trace = table_in replay.format trace replay.capacities.items

-- the table of which this is true
abbrev pub TablesTrace : Replay → (List ℕ → Type 0) → List ℕ → Type 0
TablesTrace replay IsSo trace = (text : List ℕ) × (table_of replay trace ≡ Ok text) × IsSo text

-- A trace that is replayed: how that ends. The table is written, or a front of it.
module _ {I O : Type 0} (remaining : I → Option (List ℕ)) (contents : O → Option (List ℕ)) (replay : Replay) (reader reader' : WatchedReader I) (writer writer' : WatchedWriter O) where
  abbrev pub TraceEnds : Result (Unit {0}) ProgramFault → Type 0
  TraceEnds (Ok done) =
      IfSome (remaining reader.inner) (TablesTrace replay (AddsText contents writer writer'))
      × IsAtEnd (remaining reader'.inner) × (writer'.failures ≡ writer.failures) × (writer'.flushed ≡ true)
  TraceEnds (Err program.TraceRead) = ReadFails reader reader' × AddsNothing contents writer writer'
  TraceEnds (Err (program.Trace fault)) =
      IfSome (remaining reader.inner) (λ trace. table_of replay trace ≡ Err fault) × AddsNothing contents writer writer'
  TraceEnds (Err (program.Run run.Write)) =
      IfSome (remaining reader.inner) (TablesTrace replay (AddsFront contents writer writer')) × WriteFails writer writer'
  TraceEnds (Err (program.Run run.Memory)) = AddsNothing contents writer writer'
  TraceEnds (Err _) = ⊥

-- a trace in a file that holds this
module _ {F O : Type 0} (of_file : F → Option (List ℕ)) (contents : O → Option (List ℕ)) (held : Option (Option (List ℕ))) (replay : Replay) (writer writer' : WatchedWriter O) where
  abbrev pub TraceFileEnds : Option (WatchedReader F) → Result (Unit {0}) ProgramFault → Type 0
  TraceFileEnds None result =
      FailsToOpen (Err program.TraceRead) (Err (program.Run run.Memory)) held result × AddsNothing contents writer writer'
  TraceFileEnds (Some reader) result =
      (file : F) × IsFileFound held (of_file file) × AddsAtMost most_reads 0 reader.reads × HasNotFailed program.TraceRead result (unread_reader file) reader
      × TraceEnds of_file contents replay (unread_reader file) reader writer writer' result

-- or on standard input
module _ {F I O : Type 0} (of_file : F → Option (List ℕ)) (of_input : I → Option (List ℕ)) (contents : O → Option (List ℕ)) (held : Option (Option (List ℕ))) (path : List ℕ) (asked asked' : Option (List (List ℕ))) (replay : Replay)
    (input input' : WatchedReader I) (writer writer' : WatchedWriter O) where
  abbrev pub TraceFrom : Bool → Option (WatchedReader F) → Result (Unit {0}) ProgramFault → Type 0
  TraceFrom true opened result =
      (opened ≡ None) × (asked' ≡ asked) × AddsAtMost most_reads input.reads input'.reads × HasNotFailed program.TraceRead result input input'
      × TraceEnds of_input contents replay input input' writer writer' result
  TraceFrom false opened result = (input' ≡ input) × AsksForPath asked asked' path × TraceFileEnds of_file contents held replay writer writer' opened result

-- the trace of a replay; no configuration is read
module _ {F I O : Type 0} (of_file : F → Option (List ℕ)) (of_input : I → Option (List ℕ)) (contents : O → Option (List ℕ)) (holds : List ℕ → Option (Option (List ℕ))) (asked asked' : Option (List (List ℕ))) (replay : Replay)
    (config trace : Option (WatchedReader F)) (input input' : WatchedReader I) (writer writer' : WatchedWriter O) where
  pub record ReplayEnds (result : Result (Unit {0}) ProgramFault) : Type 0 where
    pub unconfigured : config ≡ None
    pub ends : TraceFrom of_file of_input contents (holds (string_bytes replay.trace)) (string_bytes replay.trace) asked asked' replay input input' writer writer' (is_input (string_bytes replay.trace)) trace result

-- the demonstration's configuration
abbrev pub no_kinds : HookKinds
no_kinds = record { loader = None; writer = None; processors = [] }

abbrev pub demonstration : Configuration
demonstration = record { settings = demonstration_caches; hooks = no_kinds ∷ no_kinds ∷ [] }

-- a mistake is told under the program's name; standard error is a terminal or not
pub record IsMistaken (at_terminal : Bool) (words : List Text) (e : Error) (ending : Ending) : Type 0 where
  pub text : String Global
  pub is : ending ≡ Mistaken text
  pub told : TellsMistake words (string_bytes text)
  pub asked : asks_to_explain at_terminal words ≡ true
  pub no_help : kind_of e ≢ DisplayHelp
  pub no_version : kind_of e ≢ DisplayVersion

-- words that are refused, where they ask for explanations under the program's name
abbrev pub RefusesSo : Bool → List Text → Error → Ending → Type 0
RefusesSo at_terminal words e ending = (ending ≡ Refused e) ⊎ IsMistaken at_terminal words e ending

module _ {F I O : Type 0} (of_file : F → Option (List ℕ)) (of_input : I → Option (List ℕ)) (contents : O → Option (List ℕ)) (holds : List ℕ → Option (Option (List ℕ))) (asked asked' : Option (List (List ℕ)))
    (opened opened' : Opened F) (input input' : WatchedReader I) (writer writer' : WatchedWriter O) where
  -- no file is asked for
  abbrev pub OpensNone : Type 0
  OpensNone = (asked' ≡ asked) × (opened' ≡ opened)

  -- nor is a stream used
  abbrev pub RunsNone : Type 0
  RunsNone = OpensNone × (input' ≡ input) × (writer' ≡ writer)

  -- What words ask for, and how that ends. Where they are mistaken, or memory is wanting, nothing is run.
  module _ (at_terminal : Bool) (words : List Text) (ending : Ending) where
    pub data WordsEnd : Type 0 where
      plays : words ≡ [] → (ran : Result (Unit {0}) RunFault) → RunEnds of_input contents true false format.Text demonstration input input' writer writer' ran → AddsAtMost most_reads input.reads input'.reads → HasNotFailed run.Read ran input input' → OpensNone → ending ≡ plain_ending (as_program ran) → WordsEnd
      runs : (run : Run) → AsksFor words (asks.Run run) → (ran : Result (Unit {0}) ProgramFault) → FilesEnd of_file of_input contents holds asked asked' run opened'.config opened'.script input input' writer writer' ran → ending ≡ ending_of (explains at_terminal run.explain) (path_of run.config run.script) ran → WordsEnd
      checks : (check : Check) → AsksFor words (asks.Check check) → (ran : Result (Unit {0}) ProgramFault) → CheckEnds of_file of_input holds asked asked' check opened'.config opened'.script input input' ran → writer' ≡ writer → ending ≡ ending_of_check (explains at_terminal check.explain) check ran → WordsEnd
      replays : (replay : Replay) → AsksFor words (asks.Replay replay) → (ran : Result (Unit {0}) ProgramFault) → ReplayEnds of_file of_input contents holds asked asked' replay opened'.config opened'.script input input' writer writer' ran → ending ≡ ending_of (explains at_terminal replay.explain) (λ fault. replay.trace) ran → WordsEnd
      refuses : (e : Error) → words ≢ [] → MayRefuse words e → kind_of e ≢ OutOfMemory → RefusesSo at_terminal words e ending → RunsNone → WordsEnd
      lacks_memory : ending ≡ memory_ending → RunsNone → WordsEnd

  abbrev pub Obeys : Bool → Result (List Text) WordsFault → Ending → Type 0
  Obeys at_terminal (Ok words) ending = WordsEnd at_terminal words ending
  Obeys at_terminal (Err fault.NotText) ending = (ending ≡ NotText) × RunsNone
  Obeys at_terminal (Err (fault.Explained text)) ending = (ending ≡ Mistaken text) × RunsNone
  Obeys at_terminal (Err fault.OutOfMemory) ending = (ending ≡ memory_ending) × RunsNone

module _ {F I O E : Type 0} (of_file : F → Option (List ℕ)) (of_input : I → Option (List ℕ)) (contents : O → Option (List ℕ)) (said : E → Option (List ℕ)) (holds : List ℕ → Option (Option (List ℕ))) (asked asked' : Option (List (List ℕ)))
    (opened opened' : Opened F) (standard standard' : Standard I O E) where
  -- the program has obeyed the words, and then said how that ended, with these lines below a fault that is explained
  pub record ProgramEnds (lines : List ℕ) (words : Result (List Text) WordsFault) (result : Ended) : Type 0 where
    pub ending : Ending
    pub written : WatchedWriter O
    pub obeys : Obeys of_file of_input contents holds asked asked' opened opened' standard.input standard'.input standard.output written standard.at_terminal words ending
    pub status : HasStatus ending result.told standard'.output.unheard result.status
    pub says : SaysSo said lines ending result.told standard'.output.unheard standard.errors standard'.errors
    pub leaves : Leaves ending result.told written standard'.output
