-- Faults of a configuration, and what its reading gives.
use Rattle.std.specs.Prelude.{ℕ, List, Bool, true, false, Result, codes}
use Rattle.jc_config.specs.FirstFault.{GivesUnless}
use Rattle.jc_config.specs.declared.fault.Member.{Member}
use Rattle.jc_config.specs.declared.fault.Member.TheVariants as members
use Rattle.jc_config.specs.declared.fault.ConfigFault.{ConfigFault}
use Rattle.jc_config.specs.declared.fault.ConfigFault.TheVariants.{OutOfMemory}
pub use Rattle.jc_config.specs.FirstFault.{◌>>=◌}

-- the fault is want of memory
abbrev pub config_wants_memory : ConfigFault → Bool
config_wants_memory OutOfMemory = true
config_wants_memory _ = false

-- the result is that of the reading, as far as memory suffices
abbrev pub GivesConfig : {X Y : Type 0} → (X → Y) → Result X ConfigFault → Result Y ConfigFault → Type 0
GivesConfig seen result reading = GivesUnless config_wants_memory seen result reading

abbrev pub config_member_name : Member → List ℕ
config_member_name members.Name = codes "name"
config_member_name members.Capacity = codes "capacity"
config_member_name members.Expiry = codes "expiry"
config_member_name members.Duration = codes "duration"
config_member_name members.Loader = codes "loader"
config_member_name members.Writer = codes "writer"
config_member_name members.Processors = codes "processors"
config_member_name members.Listeners = codes "listeners"
config_member_name members.Entry = codes "entry"
