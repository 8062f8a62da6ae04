-- Calls that are not told as overtaken.
use Rattle.std.proofs.Common.{◌≢◌, Result, Ok, Err}
use Rattle.std.specs.Prelude.{IsOk, IfErr}
use Rattle.jc_model.specs.declared.call.Reply.{Reply}
use Rattle.jc_locked.specs.declared.fault.CallFault.{CallFault}
use Rattle.jc_locked.specs.declared.fault.CallFault.TheVariants as faults

-- a reply is no fault
pub if_replied : (r : Result Reply CallFault) → IsOk r → IfErr r (λ fault. fault ≢ faults.Overtaken)
if_replied (Ok reply) is = tt
if_replied (Err fault) is = absurd (cc)
