-- What a call on many keys has gathered, as the code has it.
use Rattle.std.specs.Prelude.{ℕ, ◌+◌, ◌≤◌, List, ◌++◌, Option, Some, None, option_map, Result, Ok, Err}
use Rattle.std.specs.Option.{option_to_list}
use Rattle.jc_model.specs.declared.call.ProcessorFault.{ProcessorFault}
use Rattle.jc_model.specs.declared.call.Reply.{Reply}
use Rattle.jc_model.specs.declared.call.Reply.TheVariants.{Found, Fault}
use Rattle.jc_model.specs.Bulk.{Gathered, nothing, pairs, results, Sum}
use Rattle.jc_bulk.specs.declared.call_sum.Collected.{Collected}
use Rattle.jc_bulk.specs.declared.call_sum.Collected.TheVariants.{Nothing, Pairs, Results}
use Rattle.jc_bulk.specs.declared.call_sum.CallSum.{CallSum}

abbrev pub gathered_in : Collected → Gathered
gathered_in Nothing = nothing
gathered_in (Pairs l) = pairs l.items
gathered_in (Results l) = results l.items

abbrev pub sum_of : CallSum → Sum
sum_of t = record { done = t.done; gathered = gathered_in t.collected }

-- there is room for n keys more
abbrev pub HasRoomFor : ℕ → Collected → Type 0
HasRoomFor n Nothing = Unit {0}
HasRoomFor n (Pairs l) = n ≤ l.spare
HasRoomFor n (Results l) = n ≤ l.spare

-- what one key takes of that room
abbrev pub UsesRoomForOne : Collected → Collected → Type 0
UsesRoomForOne old new = (n : ℕ) → HasRoomFor (n + 1) old → HasRoomFor n new

-- the value that was found
abbrev pub found_in : Reply → Option (List ℕ)
found_in (Found v) = v
found_in _ = None

-- what the processor came to
abbrev pub result_in : Reply → Option (Result (List ℕ) ProcessorFault)
result_in (Found None) = None
result_in (Found (Some v)) = Some (Ok v)
result_in (Fault by number) = Some (Err (record {}))
result_in _ = None

-- with the key's part of the reply, where it has one
abbrev pub pushed : {T : Type 0} → List (List ℕ × T) → List ℕ → Option T → List (List ℕ × T)
pushed items k part = items ++ option_to_list (option_map (λ x. (k, x)) part)
