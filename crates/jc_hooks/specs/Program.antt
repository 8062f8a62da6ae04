-- What the program's callbacks answer, by bytes.
use Rattle.std.specs.Prelude.{◌≡◌, ℕ, Bool, false, not, ◌==◌, nat_le, if◌then◌else◌, List, [], ◌∷◌, ◌++◌, length, Option, Some, None, Result, Ok, Err, ⊤}
use Rattle.jc_model.specs.Limits.{value_bytes}
use Rattle.jc_model.specs.declared.call.Request.{Request}
use Rattle.jc_model.specs.declared.call.Request.TheVariants.{Write, Delete}
use Rattle.jc_model.specs.declared.call.Answer.{Answer}
use Rattle.jc_model.specs.declared.call.Action.TheVariants as actions
use Rattle.jc_model.specs.declared.call.Verdict.{Verdict}
use Rattle.jc_model.specs.declared.call.ProcessorFault.{ProcessorFault}
use Rattle.jc_hooks.specs.Answers.{write_answer_of}
use Rattle.jc_hooks.specs.declared.loader.Loaded.{Loaded}
use Rattle.jc_hooks.specs.declared.loader.Loaded.TheVariants.{Found, Failed}

-- the first byte of a key for which nothing is found
abbrev pub dash : ℕ
dash = 45

-- the first byte of a key for which loader and writer fail
abbrev pub exclamation_mark : ℕ
exclamation_mark = 33

abbrev pub begins_with : ℕ → List ℕ → Bool
begins_with byte [] = false
begins_with byte (x ∷ xs) = x == byte

abbrev pub echo_answer : List ℕ → Loaded
echo_answer key = if begins_with dash key then Found None else (if begins_with exclamation_mark key then Failed else Found (Some key))

-- the check writer's answer
abbrev pub IsChecked : Request → Answer → Type 0
IsChecked (Write key value) answer = answer ≡ write_answer_of (not (begins_with exclamation_mark key))
IsChecked (Delete key) answer = answer ≡ write_answer_of (not (begins_with exclamation_mark key))
IsChecked _ answer = ⊥

abbrev pub AllChecked : List (Request × Answer) → Type 0
AllChecked [] = ⊤
AllChecked (given ∷ rest) = IsChecked given.0 given.1 × AllChecked rest

-- a value's bytes, or none
abbrev pub value_or_empty : Option (List ℕ) → List ℕ
value_or_empty None = []
value_or_empty (Some value) = value

abbrev pub processor_failure : Result Verdict ProcessorFault
processor_failure = Err (record {})

abbrev pub set_to : List ℕ → Result Verdict ProcessorFault
set_to value = if nat_le (length value) value_bytes then Ok (record { action = actions.Set value; answer = Some value }) else processor_failure

abbrev pub append_verdict : Option (List ℕ) → List ℕ → Result Verdict ProcessorFault
append_verdict value argument = set_to (value_or_empty value ++ argument)

abbrev pub drop_verdict : Option (List ℕ) → Result Verdict ProcessorFault
drop_verdict value = Ok (record { action = actions.Remove; answer = value })

abbrev pub peek_verdict : Option (List ℕ) → Result Verdict ProcessorFault
peek_verdict value = Ok (record { action = actions.Keep; answer = value })
