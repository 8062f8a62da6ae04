-- Why a cache's hooks lock is not handed out, and what a session is then told.
use Rattle.std.specs.Prelude.{Option, Some, None}
use Rattle.jc_locked.specs.declared.fault.CallFault.{CallFault}
use Rattle.jc_locked.specs.declared.fault.CallFault.TheVariants.{NoSuchCache, OutOfMemory}
use Rattle.jc_locked.specs.declared.fault.DestroyFault.{DestroyFault}
use Rattle.jc_locked.specs.declared.fault.DestroyFault.TheVariants as destroying
use Rattle.jc_shared.specs.declared.unfound.Unfound.{Unfound}
use Rattle.jc_shared.specs.declared.unfound.Unfound.TheVariants as unfound

-- a hooks lock that is there is refused for memory alone
abbrev pub unfound_at : {A : Type 0} → Option A → Unfound
unfound_at None = unfound.NoSuchCache
unfound_at (Some lock) = unfound.OutOfMemory

abbrev pub call_fault_of : Unfound → CallFault
call_fault_of unfound.NoSuchCache = NoSuchCache
call_fault_of unfound.OutOfMemory = OutOfMemory

abbrev pub destroy_fault_of : Unfound → DestroyFault
destroy_fault_of unfound.NoSuchCache = destroying.NoSuchCache
destroy_fault_of unfound.OutOfMemory = destroying.OutOfMemory
