-- Answers as plain data, so that an equation of two answers has one proof at most.
use Rattle.std.specs.Prelude.{◌≡◌, refl, ℕ, List, Option, Some, None, Result, Ok, Err}
use Rattle.std.specs.Coded.{Coded, code_by, coded_option, coded×, coded_list, coded_ℕ}
use Rattle.jc_model.specs.declared.call.Action.{Action}
use Rattle.jc_model.specs.declared.call.Action.TheVariants.{Keep, Set, Remove}
use Rattle.jc_model.specs.declared.call.Verdict.{Verdict}
use Rattle.jc_model.specs.declared.call.ProcessorFault.{ProcessorFault}
use Rattle.jc_hooks.specs.declared.loader.Loaded.{Loaded}
use Rattle.jc_hooks.specs.declared.loader.Loaded.TheVariants.{Found, Failed}

abbrev pub loaded_data : Loaded → Option (Option (List ℕ))
loaded_data (Found value) = Some value
loaded_data Failed = None

abbrev pub data_loaded : Option (Option (List ℕ)) → Loaded
data_loaded (Some value) = Found value
data_loaded None = Failed

pub loaded_back : (l : Loaded) → data_loaded (loaded_data l) ≡ l
loaded_back (Found value) = refl
loaded_back Failed = refl

pub loaded_code : Coded Loaded
loaded_code = code_by (Option (Option (List ℕ))) (coded_option (coded_option (coded_list coded_ℕ))) loaded_data data_loaded loaded_back

abbrev pub action_data : Action → Option (Option (List ℕ))
action_data Keep = None
action_data (Set value) = Some (Some value)
action_data Remove = Some None

abbrev pub data_action : Option (Option (List ℕ)) → Action
data_action None = Keep
data_action (Some (Some value)) = Set value
data_action (Some None) = Remove

pub action_back : (a : Action) → data_action (action_data a) ≡ a
action_back Keep = refl
action_back (Set value) = refl
action_back Remove = refl

pub action_code : Coded Action
action_code = code_by (Option (Option (List ℕ))) (coded_option (coded_option (coded_list coded_ℕ))) action_data data_action action_back

abbrev pub verdict_data : Result Verdict ProcessorFault → Option (Action × Option (List ℕ))
verdict_data (Ok v) = Some (v.action, v.answer)
verdict_data (Err e) = None

abbrev pub data_verdict : Option (Action × Option (List ℕ)) → Result Verdict ProcessorFault
data_verdict (Some p) = Ok (record { action = p.0; answer = p.1 })
data_verdict None = Err (record {})

pub verdict_back : (v : Result Verdict ProcessorFault) → data_verdict (verdict_data v) ≡ v
verdict_back (Ok v) = refl
verdict_back (Err e) = refl

pub verdict_code : Coded (Result Verdict ProcessorFault)
verdict_code = code_by (Option (Action × Option (List ℕ))) (coded_option (coded× action_code (coded_option (coded_list coded_ℕ)))) verdict_data data_verdict verdict_back
