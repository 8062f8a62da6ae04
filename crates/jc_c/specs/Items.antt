-- What an outcome shows, item by item.
use Rattle.std.specs.Prelude.{ℕ, ltb, if◌then◌else◌, Result, Ok, Err, List, [], ◌∷◌, ◌++◌, map, length, take, drop}
use Rattle.std.specs.Prelude.{Option, Some, None}
use Rattle.jc_model.specs.declared.call.Counts.{Counts}
use Rattle.jc_model.specs.declared.call.Kind.{Kind}
use Rattle.jc_model.specs.declared.call.Kind.TheVariants as kind
use Rattle.jc_model.specs.declared.call.Notice.{Notice}
use Rattle.jc_model.specs.declared.call.ProcessorFault.{ProcessorFault}
use Rattle.jc_model.specs.declared.call.Reply.{Reply}
use Rattle.jc_model.specs.declared.call.Reply.TheVariants as reply
use Rattle.jc_model.specs.declared.call.Request.{Request}
use Rattle.jc_model.specs.declared.call.Request.TheVariants as request
use Rattle.jc_model.specs.declared.event.Outcome.{Outcome}
use Rattle.jc_model.specs.declared.event.Outcome.TheVariants as outcome
use Rattle.jc_model.specs.declared.event.Step.TheVariants as step
use Rattle.jc_c.specs.declared.status.Status.{Status}
use Rattle.jc_c.specs.declared.status.Status.TheVariants.{Done, NoItem, ShortBuffer}

-- bytes that are there or not
abbrev pub Bytes : Type 0
Bytes = Option (List ℕ)

-- `value` of a row, `before` it was changed, `argument` of a processor
pub record ShownItem : Type 0 where
  pub key : Bytes
  pub value : Bytes
  pub before : Bytes
  pub argument : Bytes

abbrev pub bare_item : ShownItem
bare_item = record { key = None; value = None; before = None; argument = None }

abbrev pub item_of_key : List ℕ → ShownItem
item_of_key k = record bare_item { key = Some k }

abbrev pub item_of_pair : List ℕ × List ℕ → ShownItem
item_of_pair p = record bare_item { key = Some p.0; value = Some p.1 }

-- the value of what went well
abbrev pub value_if_ok : {E : Type 0} → Result (List ℕ) E → Bytes
value_if_ok (Ok v) = Some v
value_if_ok (Err e) = None

abbrev pub item_of_result : List ℕ × Result (List ℕ) ProcessorFault → ShownItem
item_of_result p = record bare_item { key = Some p.0; value = value_if_ok p.1 }

abbrev pub item_of_notice : Notice → ShownItem
item_of_notice n = record { key = Some n.key; value = n.value; before = n.before; argument = None }

abbrev pub in_reply : Reply → List ShownItem
in_reply (reply.Found (Some v)) = record bare_item { value = Some v } ∷ []
in_reply (reply.Listed pairs) = map item_of_pair pairs
in_reply (reply.Results results) = map item_of_result results
in_reply _ = []

abbrev pub in_request : Request → List ShownItem
in_request (request.Load k) = item_of_key k ∷ []
in_request (request.Write k v) = record bare_item { key = Some k; value = Some v } ∷ []
in_request (request.Delete k) = item_of_key k ∷ []
in_request (request.Process k processor v a) = record { key = Some k; value = v; before = None; argument = Some a } ∷ []
in_request (request.Tell notices) = map item_of_notice notices

abbrev pub items_shown : Outcome → List ShownItem
items_shown (outcome.Step (step.Done r)) = in_reply r
items_shown (outcome.Step (step.Need q)) = in_request q
items_shown (outcome.GivenUp notices) = map item_of_notice notices
items_shown _ = []

-- Numbers.

abbrev pub kind_number : Kind → ℕ
kind_number kind.Created = 0
kind_number kind.Updated = 1
kind_number kind.Removed = 2
kind_number kind.Expired = 3

abbrev pub count_numbers : Counts → List ℕ
count_numbers c = c.hits ∷ c.misses ∷ c.puts ∷ c.removals ∷ c.evictions ∷ []

-- the counters; the keys done before a fault; a processor; of each notice its kind
abbrev pub numbers_of : Outcome → List ℕ
numbers_of (outcome.Step (step.Done (reply.Counted c))) = count_numbers c
numbers_of (outcome.Step (step.Done (reply.Fault who (Some n)))) = n ∷ []
numbers_of (outcome.Step (step.Need (request.Process k processor v a))) = processor ∷ []
numbers_of (outcome.Step (step.Need (request.Tell notices))) = map (λ n. kind_number n.kind) notices
numbers_of (outcome.GivenUp notices) = map (λ n. kind_number n.kind) notices
numbers_of _ = []

-- What is copied into a buffer, and what is told of it.

-- the first bytes that fit, and behind them what was there
abbrev pub buffer_after : Bytes → List ℕ → List ℕ
buffer_after None out = out
buffer_after (Some bytes) out = take (length out) bytes ++ drop (length bytes) out

abbrev pub length_told : Bytes → ℕ → ℕ
length_told None n = n
length_told (Some bytes) n = length bytes

abbrev pub copy_status : Bytes → ℕ → Status
copy_status None room = NoItem
copy_status (Some bytes) room = if ltb room (length bytes) then ShortBuffer else Done
