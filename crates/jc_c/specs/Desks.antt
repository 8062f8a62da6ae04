-- A cache's desk, and which values are taken there.
use Rattle.std.specs.Prelude.{ℕ, ltb, not, true, false, Bool, List, [], ◌∷◌, map, option_map, length, if◌then◌else◌, Result, Ok, Err}
use Rattle.std.specs.Prelude.{Option, Some, None}
use Rattle.std.specs.List.{list_all}
use Rattle.jc_model.specs.declared.call.Action.{Action}
use Rattle.jc_model.specs.declared.call.Action.TheVariants as action
use Rattle.jc_model.specs.declared.call.Answer.{Answer}
use Rattle.jc_model.specs.declared.call.Answer.TheVariants as answer
use Rattle.jc_model.specs.declared.call.Call.{Call}
use Rattle.jc_model.specs.declared.call.Call.TheVariants as call
use Rattle.jc_model.specs.declared.call.Reply.TheVariants.{Truth}
use Rattle.jc_model.specs.declared.event.Cause.TheVariants.{Busy, NoSuchCache}
use Rattle.jc_model.specs.declared.event.Outcome.{Outcome}
use Rattle.jc_model.specs.declared.event.Outcome.TheVariants as outcome
use Rattle.jc_model.specs.declared.event.Step.TheVariants as step
use Rattle.jc_model.specs.Runs.{is_refused}
use Rattle.jc_c.specs.declared.desks.Desk.{Desk}
use Rattle.jc_c.specs.declared.status.Fault.{Fault}
use Rattle.jc_c.specs.declared.status.Fault.TheVariants.{BadValue}
use Rattle.jc_c.specs.Reading.{read_then}

-- a desk that shows this now
abbrev pub showing : Outcome → Option Desk → Option Desk
showing outcome desk = option_map (λ (d : Desk). record d { shown = outcome }) desk

-- whether a call is open, by what is shown: its request
abbrev pub asks : Outcome → Bool
asks (outcome.Step (step.Need q)) = true
asks _ = false

-- of a desk that may be none
abbrev pub asks_at : Option Desk → Option Bool
asks_at desk = option_map (λ d. asks d.shown) desk

-- what a call comes to that asks whether there is a row, by what is shown before it
abbrev pub truth_beside : Bool → Outcome → Outcome
truth_beside held shown = if asks shown then outcome.Refused Busy else outcome.Step (step.Done (Truth held))

abbrev pub truth_at : Bool → Option Desk → Outcome
truth_at held None = outcome.Refused NoSuchCache
truth_at held (Some desk) = truth_beside held desk.shown

-- a desk that shows what was not refused
abbrev pub showing_accepted : Outcome → Option Desk → Option Desk
showing_accepted outcome desk = if is_refused outcome then desk else showing outcome desk

-- the values that a call may store
abbrev pub values_of_call : Call → List (List ℕ)
values_of_call (call.Put k v) = v ∷ []
values_of_call (call.GetAndPut k v) = v ∷ []
values_of_call (call.PutIfAbsent k v) = v ∷ []
values_of_call (call.Replace k v) = v ∷ []
values_of_call (call.ReplaceIf k e v) = v ∷ []
values_of_call (call.GetAndReplace k v) = v ∷ []
values_of_call (call.PutAll pairs) = map (λ p. p.1) pairs
values_of_call _ = []

abbrev pub value_set : Action → List (List ℕ)
value_set (action.Set v) = v ∷ []
value_set _ = []

-- and those that an answer may
abbrev pub values_of_answer : Answer → List (List ℕ)
values_of_answer (answer.Loaded (Some v)) = v ∷ []
values_of_answer (answer.Processed (Ok verdict)) = value_set verdict.action
values_of_answer _ = []

-- a value is taken at a desk; where there is none the manager is asked with any
abbrev pub is_taken : Option Desk → List ℕ → Bool
is_taken None v = true
is_taken (Some desk) v = not (ltb desk.max_value (length v))

-- what bytes say, if its values are taken
abbrev pub if_taken : {A : Type 0} → Option Desk → (A → List (List ℕ)) → Result A Fault → Result A Fault
if_taken desk values said = read_then said (λ x. if list_all (is_taken desk) (values x) then Ok x else Err BadValue)
