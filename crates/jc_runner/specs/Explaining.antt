-- The lines that explain a fault, by what was read of the two files.
use Rattle.std.specs.Prelude.{◌≡◌, ◌⊎◌, ℕ, List, [], ◌++◌, Option, Result, Ok, Err}
use Rattle.std.specs.declared.io.ErrorKind.{ErrorKind}
use Rattle.jc_config.specs.Config.{configuration_in}
use Rattle.jc_config.specs.Limits.{names_of_caches}
use Rattle.jc_config.specs.declared.fault.ConfigFault.{ConfigFault}
use Rattle.jc_config.specs.declared.kinds.Configuration.{Configuration}
use Rattle.jc_explain.specs.Config as config
use Rattle.jc_explain.specs.Script as script
use Rattle.jc_explain.specs.Stray.{stray_line}
use Rattle.jc_explain.specs.Trace.{key_line}
use Rattle.jc_explain.specs.Unread.{path_line, unread_line}
use Rattle.jc_replay.specs.declared.fault.ReplayFault.{ReplayFault}
use Rattle.jc_replay.specs.declared.fault.ReplayFault.TheVariants as replay
use Rattle.jc_script.specs.declared.fault.ScriptFault.{ScriptFault}
use Rattle.jc_cli.specs.declared.fault.ProgramFault.{ProgramFault}
use Rattle.jc_cli.specs.declared.fault.ProgramFault.TheVariants.{ConfigRead, Config, NoCaches, TraceRead, Trace, Run}
use Rattle.jc_cli.specs.declared.fault.RunFault.{RunFault}
use Rattle.jc_cli.specs.declared.fault.RunFault.TheVariants.{Read, TooLong, Script, Entry, Open, Close, Write, Memory}

-- with the names of the caches that the configuration has
abbrev pub TellsScriptBy : Result Configuration ConfigFault → List ℕ → ScriptFault → List ℕ → Type 0
TellsScriptBy (Ok c) lines fault text = script.TellsScriptFault lines (names_of_caches c.settings) fault text
TellsScriptBy (Err f) lines fault text = text ≡ []

abbrev pub TellsScript : List ℕ → List ℕ → ScriptFault → List ℕ → Type 0
TellsScript bytes lines fault text = TellsScriptBy (configuration_in bytes) lines fault text

abbrev pub TellsRun : List ℕ → List ℕ → RunFault → List ℕ → Type 0
TellsRun bytes lines TooLong text = text ≡ script.too_long_line
TellsRun bytes lines (Script fault) text = TellsScript bytes lines fault text
TellsRun bytes lines (Entry n) text = text ≡ stray_line n lines
TellsRun bytes lines Read text = text ≡ []
TellsRun bytes lines Open text = text ≡ []
TellsRun bytes lines Close text = text ≡ []
TellsRun bytes lines Write text = text ≡ []
TellsRun bytes lines Memory text = text ≡ []

abbrev pub TellsTrace : List ℕ → ReplayFault → List ℕ → Type 0
TellsTrace bytes replay.TooLong text = text ≡ script.too_long_line
TellsTrace bytes (replay.BadKey n) text = text ≡ key_line n bytes
TellsTrace bytes replay.OutOfMemory text = text ≡ []

-- the configuration's bytes, and the script's or the trace's
abbrev pub TellsContent : List ℕ → List ℕ → ProgramFault → List ℕ → Type 0
TellsContent bytes lines (Config fault) text = config.TellsConfigFault bytes fault text
TellsContent bytes lines NoCaches text = text ≡ config.no_caches_line
TellsContent bytes lines (Trace fault) text = TellsTrace lines fault text
TellsContent bytes lines (Run fault) text = TellsRun bytes lines fault text
TellsContent bytes lines ConfigRead text = text ≡ []
TellsContent bytes lines TraceRead text = text ≡ []

-- lines below the path of the file in which the fault is, or none
pub record TellsIn (path : List ℕ) (Tells : List ℕ → Type 0) (text : List ℕ) : Type 0 where
  pub rest : List ℕ
  pub tells : Tells rest
  pub lines : (text ≡ path_line path ++ rest) ⊎ ((text ≡ []) × (rest ≡ []))

-- the file's path, and what the system answered for it
module _ (path : List ℕ) (kind : Option ErrorKind) where
  abbrev pub TellsFault : List ℕ → List ℕ → ProgramFault → List ℕ → Type 0
  TellsFault bytes lines ConfigRead text = text ≡ unread_line path kind
  TellsFault bytes lines TraceRead text = text ≡ unread_line path kind
  TellsFault bytes lines (Run Read) text = text ≡ unread_line path kind
  TellsFault bytes lines fault text = TellsIn path (TellsContent bytes lines fault) text
