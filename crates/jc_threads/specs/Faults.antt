-- How refusals are told: want of memory as that, and all else as `Close`.
use Rattle.jc_locked.specs.declared.fault.CallFault.{CallFault}
use Rattle.jc_locked.specs.declared.fault.CallFault.TheVariants as call
use Rattle.jc_locked.specs.declared.fault.CloseFault.{CloseFault}
use Rattle.jc_locked.specs.declared.fault.CloseFault.TheVariants as closing
use Rattle.jc_locked.specs.declared.fault.DestroyFault.{DestroyFault}
use Rattle.jc_locked.specs.declared.fault.DestroyFault.TheVariants as destroying
use Rattle.jc_locked.specs.declared.fault.SessionRefusal.{SessionRefusal}
use Rattle.jc_locked.specs.declared.fault.SessionRefusal.TheVariants as session
use Rattle.jc_threads.specs.declared.fault.WorkFault.{WorkFault}
use Rattle.jc_threads.specs.declared.fault.WorkFault.TheVariants.{Close, OutOfMemory}

abbrev pub session_work_fault : SessionRefusal → WorkFault
session_work_fault session.OutOfMemory = OutOfMemory
session_work_fault _ = Close

abbrev pub call_work_fault : CallFault → WorkFault
call_work_fault call.OutOfMemory = OutOfMemory
call_work_fault _ = Close

abbrev pub destroy_work_fault : DestroyFault → WorkFault
destroy_work_fault destroying.OutOfMemory = OutOfMemory
destroy_work_fault _ = Close

abbrev pub close_work_fault : CloseFault → WorkFault
close_work_fault closing.OutOfMemory = OutOfMemory
close_work_fault _ = Close
