-- All faults of files that were checked, behind the first.
use Rattle.std.specs.Prelude.{◌≡◌, ℕ, Bool, if◌then◌else◌, List, [], ◌∷◌, ◌++◌, drop, map, Result, Ok, Err, Option}
use Rattle.std.specs.Bool.{MatchBool}
use Rattle.std.specs.declared.io.ErrorKind.{ErrorKind}
use Rattle.jc_cli.specs.Faults.{fault_line, explained_line}
use Rattle.jc_cli.specs.declared.fault.ProgramFault.{ProgramFault}
use Rattle.jc_cli.specs.declared.fault.ProgramFault.TheVariants.{Config, Run}
use Rattle.jc_cli.specs.declared.fault.RunFault.TheVariants.{Script, Entry}
use Rattle.jc_config.specs.Config.{configuration_in}
use Rattle.jc_config.specs.declared.fault.ConfigFault.{ConfigFault}
use Rattle.jc_config.specs.declared.kinds.Configuration.{Configuration}
use Rattle.jc_explain.specs.ConfigFaults.{all_config_faults}
use Rattle.jc_explain.specs.Every.{all_faults, all_strays}
use Rattle.jc_model.specs.declared.config.CacheConfig.{CacheConfig}
use Rattle.jc_runner.specs.Explaining.{TellsFault}
use Rattle.jc_script.specs.declared.fault.ScriptFault.{ScriptFault}

abbrev pub of_config : ConfigFault → ProgramFault
of_config fault = Config fault

abbrev pub of_script : ScriptFault → ProgramFault
of_script fault = Run (Script fault)

abbrev pub of_entry : ℕ → ProgramFault
of_entry line = Run (Entry line)

-- the faults of a script on these caches that stand behind the first: those of its lines, then under `--strict` the lines
-- with a member that their ops do not need
abbrev pub others_on : Bool → List CacheConfig → List ℕ → ProgramFault → List ProgramFault
others_on strict caches script (Run (Script fault)) =
    map of_script (drop 1 (all_faults caches script)) ++ map of_entry (if strict then all_strays script else [])
others_on strict caches script (Run (Entry line)) = map of_entry (drop 1 (all_strays script))
others_on strict caches script fault = []

abbrev pub script_others : Bool → List ℕ → ProgramFault → Result Configuration ConfigFault → List ProgramFault
script_others strict script fault (Err e) = []
script_others strict script fault (Ok c) = others_on strict c.settings script fault

-- the faults of a configuration that stand behind the first
abbrev pub config_others : List ℕ → List ProgramFault
config_others config = map of_config (drop 1 (all_config_faults config))

-- by the bytes of the configuration and of the script
abbrev pub others : Bool → List ℕ → List ℕ → ProgramFault → List ProgramFault
others strict config script (Config fault) = config_others config
others strict config script fault = script_others strict script fault (configuration_in config)

-- texts of faults, one after the other
abbrev pub Each : (ProgramFault → List ℕ → Type 0) → List ProgramFault → List ℕ → Type 0
Each Tells [] text = text ≡ []
Each Tells (fault ∷ faults) text = (one : List ℕ) × (rest : List ℕ) × Tells fault one × Each Tells faults rest × (text ≡ one ++ rest)

module _ (path : List ℕ) (kind : Option ErrorKind) (config script : List ℕ) where
  -- a fault with its explanation, under the program's name
  abbrev pub TellsExplained : ProgramFault → List ℕ → Type 0
  TellsExplained fault text = (lines : List ℕ) × TellsFault path kind config script fault lines × (text ≡ explained_line fault lines)

  -- a fault as it is told alone
  abbrev pub TellsAlone : Bool → ProgramFault → List ℕ → Type 0
  TellsAlone explain fault text = MatchBool explain (TellsExplained fault text) (text ≡ fault_line fault)

  -- what stands below the line of the first fault: its explanation, where it is to be explained, and all faults behind it
  abbrev pub TellsBelow : Bool → Bool → ProgramFault → List ℕ → Type 0
  TellsBelow explain strict fault text =
      (lines : List ℕ) × (rest : List ℕ) × MatchBool explain (TellsFault path kind config script fault lines) (lines ≡ []) × Each (TellsAlone explain) (others strict config script fault) rest × (text ≡ lines ++ rest)
