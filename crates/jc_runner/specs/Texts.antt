-- What a reader has left, read as a configuration or as a script, and the faults of it that a run tells.
use Rattle.std.specs.Prelude.{◌≡◌, ℕ, List, Option, IfSome, Result, Ok, Err, IsOk}
use Rattle.jc_config.specs.Config.{configuration_in}
use Rattle.jc_config.specs.declared.fault.ConfigFault.{ConfigFault}
use Rattle.jc_config.specs.declared.fault.ConfigFault.TheVariants.{TooLong}
use Rattle.jc_config.specs.declared.kinds.Configuration.{Configuration}
use Rattle.jc_model.specs.declared.config.CacheConfig.{CacheConfig}
use Rattle.jc_script.specs.declared.fault.ScriptFault.{ScriptFault}
use Rattle.jc_script.specs.Script.{lines}
use Rattle.jc_cli.specs.Watching.{InputIsTooLong}
use Rattle.jc_cli.specs.declared.fault.ProgramFault.{ProgramFault}
use Rattle.jc_cli.specs.declared.fault.ProgramFault.TheVariants.{Config}
use Rattle.jc_cli.specs.declared.fault.RunFault.{RunFault}
use Rattle.jc_cli.specs.declared.fault.RunFault.TheVariants.{Script, Entry}
use Rattle.jc_cli.specs.declared.input.WatchedReader.{WatchedReader}

module _ {R : Type 0} (remaining : R → Option (List ℕ)) where
  abbrev pub IsConfiguration : WatchedReader R → Configuration → Type 0
  IsConfiguration reader c = IfSome (remaining reader.inner) (λ bytes. configuration_in bytes ≡ Ok c)

  abbrev pub ConfigHasFault : WatchedReader R → ConfigFault → Type 0
  ConfigHasFault reader fault = IfSome (remaining reader.inner) (λ bytes. configuration_in bytes ≡ Err fault)

  -- a fault of the configuration is only that it is too long
  abbrev pub FaultIsOfLength : WatchedReader R → ProgramFault → Type 0
  FaultIsOfLength reader e = (fault : ConfigFault) → e ≡ Config fault → (fault ≡ TooLong) × InputIsTooLong remaining reader

  -- a script on these caches
  module _ (caches : List CacheConfig) where
    abbrev pub ScriptIsGood : WatchedReader R → Type 0
    ScriptIsGood reader = IfSome (remaining reader.inner) (λ script. IsOk (lines caches script))

    abbrev pub ScriptHasFault : WatchedReader R → ScriptFault → Type 0
    ScriptHasFault reader fault = IfSome (remaining reader.inner) (λ script. lines caches script ≡ Err fault)

-- this is true of the configuration's fault, where one was told
abbrev pub IfConfigFault : {T : Type 0} → Result T ProgramFault → (ConfigFault → Type 0) → Type 0
IfConfigFault result P = (fault : ConfigFault) → result ≡ Err (Config fault) → P fault

-- of the script's fault
abbrev pub IfScriptFault : {T : Type 0} → Result T RunFault → (ScriptFault → Type 0) → Type 0
IfScriptFault result P = (fault : ScriptFault) → result ≡ Err (Script fault) → P fault

-- of the first line with a member that its op does not need
abbrev pub IfStrayLine : {T : Type 0} → Result T RunFault → (ℕ → Type 0) → Type 0
IfStrayLine result P = (n : ℕ) → result ≡ Err (Entry n) → P n
