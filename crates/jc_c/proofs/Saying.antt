-- From what was read to what the bytes say.
use Rattle.std.proofs.Common.{◌≡◌, ℕ, Result, Ok, Err, inl, inr, sym, subst}
use Rattle.jc_c.specs.declared.ffi_settings.NewCache.{NewCache}
use Rattle.jc_c.specs.declared.status.Fault.{Fault}
use Rattle.jc_c.specs.declared.status.Status.{Status}
use Rattle.jc_c.specs.Reading.{IsRead}
use Rattle.jc_c.specs.Seated.{Seated, Creates, CreatesOr}

pub creates_or : (old new : Seated) (status : Status) (id id' : ℕ) (said what : Result NewCache Fault) → IsRead what said → Creates old said status id id' new → CreatesOr old what status id id' new
creates_or old new status id id' (Ok asked) what read did = inl (subst (λ w. Creates old w status id id' new) (sym read) did)
creates_or old new status id id' (Err fault) what (inl memory) did = inr (subst (λ (f : Fault). status ≡ Rattle.jc_c.specs.Status.fault_status f) memory did.0, did.1, did.2)
creates_or old new status id id' (Err fault) what (inr is) did = inl (subst (λ w. Creates old w status id id' new) (sym is) did)
