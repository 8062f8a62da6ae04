-- What reading a script gives.
use Rattle.std.specs.Prelude.{Bool, true, false, Result}
use Rattle.jc_config.specs.FirstFault.{GivesUnless}
use Rattle.jc_script.specs.declared.fault.ScriptFault.{ScriptFault}
use Rattle.jc_script.specs.declared.fault.ScriptFault.TheVariants.{OutOfMemory}

-- the fault is want of memory
abbrev pub script_wants_memory : ScriptFault → Bool
script_wants_memory OutOfMemory = true
script_wants_memory _ = false

-- what a function returned is what reading gives, unless memory ran out
abbrev pub GivesScript : {X Y : Type 0} → (X → Y) → Result X ScriptFault → Result Y ScriptFault → Type 0
GivesScript seen result reading = GivesUnless script_wants_memory seen result reading
