-- A configuration that is refused before its text is read.
use Rattle.std.proofs.Common.{◌≡◌, ◌<◌, ℕ, List, length, Option, Some, None, Result, Err, refl, sym, ap, ◌∙◌}
use Rattle.std.specs.Prelude.{IfSome}
use Rattle.std.specs.Result.{result_err}
use Rattle.std.proofs.lemmas.Bool.{lt-leb}
use Rattle.std.proofs.lemmas.Option.{same_Some}
use Rattle.jc_config.specs.Config.{configuration_in}
use Rattle.jc_config.specs.declared.fault.ConfigFault.{ConfigFault}
use Rattle.jc_config.specs.declared.fault.ConfigFault.TheVariants.{TooLong}
use Rattle.jc_model.specs.Limits.{text_bytes}
use Rattle.jc_cli.specs.declared.fault.ProgramFault.{ProgramFault}
use Rattle.jc_cli.specs.declared.fault.ProgramFault.TheVariants.{Config}

long_text : (input : List ℕ) → text_bytes < length input → configuration_in input ≡ Err TooLong
unfolding configuration_in
long_text input long = rw (lt-leb (length input) text_bytes long) refl

pub long_texts : (left : Option (List ℕ)) (f : ConfigFault) → (f ≡ TooLong) × IfSome left (λ input. text_bytes < length input) → IfSome left (λ input. configuration_in input ≡ Err f)
long_texts None f h = tt
long_texts (Some input) f h = rw h.0 (long_text input h.1)

-- a fault that was passed on
pub passed_on : {T : Type 0} (r : Result T ProgramFault) (e : ProgramFault) (f : ConfigFault) → (y : ProgramFault) × (r ≡ Err y) × (y ≡ e) → r ≡ Err (Config f) → e ≡ Config f
passed_on r e f p is = sym p.2 ∙ same_Some p.0 (Config f) (ap result_err (sym p.1 ∙ is))
