-- Why a run ends, and the line that says why the program does.
use Rattle.std.specs.Prelude.{ℕ, Bool, true, false, List, ◌++◌, Option, Some, None, codes, decimal}
use Rattle.jc_config.specs.declared.fault.ConfigFault.{ConfigFault}
use Rattle.jc_config.specs.declared.fault.ConfigFault.TheVariants as config
use Rattle.jc_config.specs.Faults.{config_member_name}
use Rattle.jc_script.specs.declared.fault.ScriptFault.{ScriptFault}
use Rattle.jc_script.specs.declared.fault.ScriptFault.TheVariants as script
use Rattle.jc_script.specs.Member.{member_name}
use Rattle.jc_replay.specs.declared.fault.ReplayFault.{ReplayFault}
use Rattle.jc_replay.specs.declared.fault.ReplayFault.TheVariants as replay
use Rattle.jc_threads.specs.declared.fault.WorkFault.{WorkFault}
use Rattle.jc_threads.specs.declared.fault.WorkFault.TheVariants.{Close, OutOfMemory}
use Rattle.jc_cli.specs.declared.fault.RunFault.{RunFault}
use Rattle.jc_cli.specs.declared.fault.RunFault.TheVariants as run
use Rattle.jc_cli.specs.declared.fault.ProgramFault.{ProgramFault}
use Rattle.jc_cli.specs.declared.fault.ProgramFault.TheVariants.{ConfigRead, Config, NoCaches, TraceRead, Trace, Run}

-- a run on threads that came to no transcript
abbrev pub of_work : WorkFault → RunFault
of_work Close = run.Close
of_work OutOfMemory = run.Memory

abbrev pub at_line : ℕ → List ℕ → List ℕ
at_line n text = codes "script line " ++ decimal n ++ text

abbrev pub bad_line : ℕ → List ℕ → List ℕ
bad_line n member = at_line n (codes ": bad " ++ member ++ codes "\n")

abbrev pub script_line : ScriptFault → List ℕ
script_line script.TooLong = codes "script: too long\n"
script_line (script.NotJson n) = at_line n (codes ": not JSON\n")
script_line (script.NotObject n) = at_line n (codes ": not an object\n")
script_line (script.Bad n member) = bad_line n (member_name member)
script_line script.OutOfMemory = codes "out of memory\n"

abbrev pub at_cache : ℕ → List ℕ → List ℕ
at_cache n text = codes "config cache " ++ decimal n ++ text

abbrev pub bad_cache_line : ℕ → List ℕ → List ℕ
bad_cache_line n member = at_cache n (codes ": bad " ++ member ++ codes "\n")

abbrev pub config_line : ConfigFault → List ℕ
config_line config.TooLong = codes "config: too long\n"
config_line config.NotToml = codes "config: not TOML\n"
config_line config.UnknownEntry = codes "config: unknown entry\n"
config_line (config.Bad n member) = bad_cache_line n (config_member_name member)
config_line config.TooManyCaches = codes "config: too many caches\n"
config_line (config.DuplicateName n) = at_cache n (codes ": duplicate name\n")
config_line config.TotalCapacity = codes "config: total capacity\n"
config_line config.OutOfMemory = codes "out of memory\n"

abbrev pub trace_line : ReplayFault → List ℕ
trace_line replay.TooLong = codes "trace: too long\n"
trace_line (replay.BadKey n) = codes "trace line " ++ decimal n ++ codes ": bad key\n"
trace_line replay.OutOfMemory = codes "out of memory\n"

abbrev pub run_line : RunFault → List ℕ
run_line run.Read = codes "script: cannot be read\n"
run_line run.TooLong = codes "script: too long\n"
run_line (run.Script fault) = script_line fault
run_line (run.Entry n) = bad_line n (codes "entry")
run_line run.Open = codes "manager: cannot be opened\n"
run_line run.Close = codes "sessions and transcript differ\n"
run_line run.Write = codes "report: cannot be written\n"
run_line run.Memory = codes "out of memory\n"

abbrev pub fault_line : ProgramFault → List ℕ
fault_line ConfigRead = codes "config: cannot be read\n"
fault_line (Config fault) = config_line fault
fault_line NoCaches = codes "config: no caches\n"
fault_line TraceRead = codes "trace: cannot be read\n"
fault_line (Trace fault) = trace_line fault
fault_line (Run fault) = run_line fault

-- the program's name, the fault's line, and the lines of its explanation
abbrev pub explained_line : ProgramFault → List ℕ → List ℕ
explained_line fault lines = codes "jcache: " ++ (fault_line fault ++ lines)

-- a fault with others behind it, each told alone or explained
abbrev pub listed_line : Bool → ProgramFault → List ℕ → List ℕ
listed_line false fault lines = fault_line fault ++ lines
listed_line true fault lines = explained_line fault lines

-- alone, or with an explanation
abbrev pub told_lines : ProgramFault → Option (List ℕ) → List ℕ
told_lines fault None = fault_line fault
told_lines fault (Some lines) = explained_line fault lines

-- a fault is in the configuration, not in the script or the trace
abbrev pub is_of_config : ProgramFault → Bool
is_of_config ConfigRead = true
is_of_config (Config fault) = true
is_of_config NoCaches = true
is_of_config _ = false

-- the report could not be written
abbrev pub is_of_report : ProgramFault → Bool
is_of_report (Run run.Write) = true
is_of_report _ = false

-- what the reading of a trace can end with
abbrev pub of_trace : RunFault → ProgramFault
of_trace run.Read = TraceRead
of_trace run.TooLong = Trace replay.TooLong
of_trace fault = Run fault

-- and its replay
abbrev pub of_replay : ReplayFault → ProgramFault
of_replay replay.OutOfMemory = Run run.Memory
of_replay fault = Trace fault
