-- The calls and the answers that bytes say.
use Rattle.std.specs.Prelude.{ℕ, nat_eq, if◌then◌else◌, Result, Ok, Err, List}
use Rattle.std.specs.Prelude.{Option, Some, None}
use Rattle.jc_model.specs.declared.call.Action.{Action}
use Rattle.jc_model.specs.declared.call.Action.TheVariants as action
use Rattle.jc_model.specs.declared.call.Answer.{Answer}
use Rattle.jc_model.specs.declared.call.Answer.TheVariants as answer
use Rattle.jc_model.specs.declared.call.Call.{Call}
use Rattle.jc_model.specs.declared.call.Call.TheVariants as call
use Rattle.jc_c.specs.declared.reading.PairLengths.{PairLengths}
use Rattle.jc_c.specs.declared.status.Fault.{Fault}
use Rattle.jc_c.specs.declared.status.Fault.TheVariants.{BadChoice}
use Rattle.jc_c.specs.Reading.{read_then, key_said, value_said, keys_said, pairs_said, is_set}

abbrev pub call_with_key : (List ℕ → Call) → List ℕ → Result Call Fault
call_with_key call key = read_then (key_said key) (λ k. Ok (call k))

abbrev pub call_with_value : (List ℕ → List ℕ → Call) → List ℕ → List ℕ → Result Call Fault
call_with_value call key value = read_then (key_said key) (λ k. read_then (value_said value) (λ v. Ok (call k v)))

abbrev pub call_with_keys : (List (List ℕ) → Call) → List ℕ → List ℕ → Result Call Fault
call_with_keys call lengths keys = read_then (keys_said lengths keys) (λ ks. Ok (call ks))

abbrev pub replace_if : List ℕ → List ℕ → List ℕ → Result Call Fault
replace_if key expected value = read_then (key_said key) (λ k. read_then (value_said expected) (λ e. read_then (value_said value) (λ v. Ok (call.ReplaceIf k e v))))

abbrev pub remove_if : List ℕ → List ℕ → Result Call Fault
remove_if key expected = read_then (key_said key) (λ k. read_then (value_said expected) (λ e. Ok (call.RemoveIf k e)))

abbrev pub invoke : List ℕ → ℕ → List ℕ → Result Call Fault
invoke key processor argument = read_then (key_said key) (λ k. read_then (value_said argument) (λ v. Ok (call.Invoke k processor v)))

abbrev pub put_all : List PairLengths → List ℕ → Result Call Fault
put_all lengths pairs = read_then (pairs_said lengths pairs) (λ ps. Ok (call.PutAll ps))

abbrev pub load_all : List ℕ → List ℕ → ℕ → Result Call Fault
load_all lengths keys replace = read_then (keys_said lengths keys) (λ ks. Ok (call.LoadAll ks (is_set replace)))

abbrev pub invoke_all : List ℕ → List ℕ → ℕ → List ℕ → Result Call Fault
invoke_all lengths keys processor argument = read_then (keys_said lengths keys) (λ ks. read_then (value_said argument) (λ v. Ok (call.InvokeAll ks processor v)))

abbrev pub loaded_answer : List ℕ → Result Answer Fault
loaded_answer value = read_then (value_said value) (λ v. Ok (answer.Loaded (Some v)))

abbrev pub action_of : ℕ → List ℕ → Result Action Fault
action_of choice value =
    if nat_eq choice 0 then Ok action.Keep
    else (if nat_eq choice 1 then read_then (value_said value) (λ v. Ok (action.Set v))
    else (if nat_eq choice 2 then Ok action.Remove else Err BadChoice))

abbrev pub verdict_answer_said : ℕ → List ℕ → Result (Option (List ℕ)) Fault
verdict_answer_said answers said = if nat_eq answers 0 then Ok None else read_then (value_said said) (λ v. Ok (Some v))

abbrev pub processed_answer : ℕ → List ℕ → ℕ → List ℕ → Result Answer Fault
processed_answer choice value answers said =
    read_then (action_of choice value) (λ a. read_then (verdict_answer_said answers said) (λ r. Ok (answer.Processed (Ok (record { action = a; answer = r })))))
