-- A stored closure's results are those of its function.
use Rattle.std.proofs.Common.{◌≡◌, refl, ℕ, Bool, List, Bor, Option, Result, Ok, Err, ap, subst, sym, ◌∙◌}
use Rattle.std.specs.Prelude.{IfOk}
use Rattle.std.specs.declared.alloc.Global.{Global}
use Rattle.std.specs.declared.alloc.AllocError.{AllocError}
use Rattle.jc_model.specs.declared.call.Notice.{Notice}
use Rattle.jc_model.specs.declared.call.Verdict.{Verdict}
use Rattle.jc_model.specs.declared.call.ProcessorFault.{ProcessorFault}
use Rattle.jc_hooks.specs.declared.loader.Loaded.{Loaded}
use Rattle.std.specs.Coded.{Coded-set, coded_bool}
use Rattle.std.proofs.Math.Logic.{∥∥₁_elim}
use Rattle.jc_hooks.specs.Codes.{loaded_code, verdict_code}
use Rattle.jc_hooks.specs.Stated.{AnswersBy, AnswersBy-prop, IsFunction, MayAdmit, MayLoad, MayProcess}

-- a relation is no other function
pub stated_is : {X Y : Type 0} (set : (y z : Y) → IsProp (y ≡ z)) (may : X → Y → Type 0) (answers : AnswersBy may) (f : X → Y) → IsFunction may f → answers.0 ≡ f
stated_is set may answers f is = ap (λ a. a.0) (AnswersBy-prop set may answers (f, is))

pub loads_stated : (post : Global → Bor (List ℕ) → Loaded → Type 0) (answers : AnswersBy (MayLoad post)) (alloc : Global) (key : Bor (List ℕ)) (r : Result Loaded AllocError)
    → ((l : Loaded) → r ≡ Ok l → post alloc key l) → IfOk r (λ l. l ≡ answers.0 key.now)
loads_stated post answers alloc key (Ok l) met = (answers.1 key.now l).0 ∣ (alloc, key, met l refl, refl) ∣₁
loads_stated post answers alloc key (Err e) met = tt

pub verdict_stated : (post : Global → Option (List ℕ) → Bor (List ℕ) → Result Verdict ProcessorFault → Type 0) (answers : AnswersBy (MayProcess post)) (alloc : Global)
    (value given : Option (List ℕ)) (argument : Bor (List ℕ)) (r : Result (Result Verdict ProcessorFault) AllocError)
    → value ≡ given → ((v : Result Verdict ProcessorFault) → r ≡ Ok v → post alloc value argument v) → IfOk r (λ v. v ≡ answers.0 (given, argument.now))
verdict_stated post answers alloc value given argument (Ok v) same met = rw (← same) ((answers.1 (value, argument.now) v).0 ∣ (alloc, argument, met v refl, refl) ∣₁)
verdict_stated post answers alloc value given argument (Err e) same met = tt

-- a closure that answers by f, and at each key may answer so
pub loads_by : (post : Global → Bor (List ℕ) → Loaded → Type 0) (f : List ℕ → Loaded) → ((alloc : Global) (key : Bor (List ℕ)) (l : Loaded) → post alloc key l → l ≡ f key.now)
    → (alloc : Global) → ((key : List ℕ) → post alloc (record { ref_ptr = (0, 0); now = key }) (f key)) → AnswersBy (MayLoad post)
loads_by post f only alloc may = (f, λ key l. (λ h. ∥∥₁_elim h (Coded-set loaded_code l (f key)) (λ m. only m.0 m.1 l m.2 ∙ ap f m.3), λ same. ∣ (alloc, record { ref_ptr = (0, 0); now = key }, subst (post alloc (record { ref_ptr = (0, 0); now = key })) (sym same) (may key), refl) ∣₁))

pub processes_by : (post : Global → Option (List ℕ) → Bor (List ℕ) → Result Verdict ProcessorFault → Type 0) (f : Option (List ℕ) × List ℕ → Result Verdict ProcessorFault)
    → ((alloc : Global) (value : Option (List ℕ)) (argument : Bor (List ℕ)) (v : Result Verdict ProcessorFault) → post alloc value argument v → v ≡ f (value, argument.now))
    → (alloc : Global) → ((value : Option (List ℕ)) (argument : List ℕ) → post alloc value (record { ref_ptr = (0, 0); now = argument }) (f (value, argument))) → AnswersBy (MayProcess post)
processes_by post f only alloc may = (f, λ given v. (λ h. ∥∥₁_elim h (Coded-set verdict_code v (f given)) (λ m. only m.0 given.0 m.1 v m.2 ∙ ap (λ a. f (given.0, a)) m.3), λ same. ∣ (alloc, record { ref_ptr = (0, 0); now = given.1 }, subst (post alloc given.0 (record { ref_ptr = (0, 0); now = given.1 })) (sym same) (may given.0 given.1), refl) ∣₁))

pub admits_stated : (post : Bor Notice → Bool → Type 0) (answers : AnswersBy (MayAdmit post)) (notice : Bor Notice) (b : Bool) → post notice b → b ≡ answers.0 notice.now
admits_stated post answers notice b met = (answers.1 notice.now b).0 ∣ (notice, met, refl) ∣₁

-- a relation that holds with the function's answers alone, and with each of them for a lent notice
pub admits_by : (post : Bor Notice → Bool → Type 0) (f : Notice → Bool)
    → ((notice : Bor Notice) (b : Bool) → post notice b → b ≡ f notice.now)
    → ((notice : Notice) → post (record { ref_ptr = (0, 0); now = notice }) (f notice)) → AnswersBy (MayAdmit post)
admits_by post f only may = (f, λ notice b. (λ h. ∥∥₁_elim h (Coded-set coded_bool b (f notice)) (λ m. only m.0 b m.1 ∙ ap f m.2), λ same. ∣ (record { ref_ptr = (0, 0); now = notice }, subst (post (record { ref_ptr = (0, 0); now = notice })) (sym same) (may notice), refl) ∣₁))
