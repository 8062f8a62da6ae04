-- The one function by which a closure answers.
use Rattle.std.specs.Prelude.{◌≡◌, refl, ℕ, Bool, List, Option, Result, ◌↔◌}
use Rattle.std.specs.Coded.{Π_prop, ×_prop, →_prop}
use mathlib.Core.HLevel.{Σ_prop_path}
use mathlib.Core.Path.{fun_ext}
use mathlib.Core.Logic.{∥∥₁_prop}
use denote.Ref.{Bor}
use Rattle.std.specs.declared.alloc.Global.{Global}
use Rattle.jc_model.specs.declared.call.Notice.{Notice}
use Rattle.jc_model.specs.declared.call.Verdict.{Verdict}
use Rattle.jc_model.specs.declared.call.ProcessorFault.{ProcessorFault}
use Rattle.jc_hooks.specs.declared.loader.Loaded.{Loaded}

-- what may be answered to x is what the function answers, and only that
abbrev pub IsFunction : {X Y : Type 0} → (X → Y → Type 0) → (X → Y) → Type 0
IsFunction {X} {Y} may f = (x : X) (y : Y) → ∥ may x y ∥₁ ↔ (y ≡ f x)

-- with that function
abbrev pub AnswersBy : {X Y : Type 0} → (X → Y → Type 0) → Type 0
AnswersBy {X} {Y} may = (f : X → Y) × IsFunction may f

-- this is the one function by which is answered so
abbrev pub IsOnlyFunction : {X Y : Type 0} → (X → Y → Type 0) → (X → Y) → Type 0
IsOnlyFunction {X} {Y} may g = (f : X → Y) → IsFunction may f → g ≡ f

IsFunction-prop : {X Y : Type 0} → ((y z : Y) → IsProp (y ≡ z)) → (may : X → Y → Type 0) (f : X → Y) → IsProp (IsFunction may f)
IsFunction-prop set may f = Π_prop (λ x. Π_prop (λ y. ×_prop (→_prop (set y (f x))) (→_prop ∥∥₁_prop)))

-- there is no other function
pub AnswersBy-prop : {X Y : Type 0} → ((y z : Y) → IsProp (y ≡ z)) → (may : X → Y → Type 0) → IsProp (AnswersBy may)
AnswersBy-prop set may = λ u v. Σ_prop_path (IsFunction-prop set may) (fun_ext (λ x. (v.1 x (u.0 x)).0 ((u.1 x (u.0 x)).1 refl)))

-- a closure that may answer so loads l at the key
abbrev pub MayLoad : (Global → Bor (List ℕ) → Loaded → Type 0) → List ℕ → Loaded → Type 0
MayLoad answers key l = (alloc : Global) × (shown : Bor (List ℕ)) × answers alloc shown l × (shown.now ≡ key)

-- a closure that may answer so gives this verdict on a value, or nothing, and an argument
abbrev pub MayProcess : (Global → Option (List ℕ) → Bor (List ℕ) → Result Verdict ProcessorFault → Type 0) → Option (List ℕ) × List ℕ → Result Verdict ProcessorFault → Type 0
MayProcess answers given verdict = (alloc : Global) × (argument : Bor (List ℕ)) × answers alloc given.0 argument verdict × (argument.now ≡ given.1)

-- a closure that may answer so admits a change or not
abbrev pub MayAdmit : (Bor Notice → Bool → Type 0) → Notice → Bool → Type 0
MayAdmit answers notice admits = (shown : Bor Notice) × answers shown admits × (shown.now ≡ notice)
