-- What a manager answers to an event that it hears, and how the event leaves the caches.
use Rattle.std.specs.Prelude.{◌≡◌, ℕ, true, false, List, Option, MatchOption}
use Rattle.jc_model.specs.declared.call.Call.{Call}
use Rattle.jc_model.specs.declared.event.Cause.{Cause}
use Rattle.jc_model.specs.declared.event.Event.{Event}
use Rattle.jc_model.specs.declared.event.Event.TheVariants.{Begin}
use Rattle.jc_model.specs.declared.event.Outcome.{Outcome}
use Rattle.jc_model.specs.declared.event.Outcome.TheVariants.{Refused}
use Rattle.jc_model.specs.Runs.{answer_to, lives_after, for_memory, lives_in_end}
use Rattle.jc_engine.specs.Caches.{Cache, lives_of}
use Rattle.jc_engine.specs.Free.{takes_none}
use Rattle.jc_engine.specs.Managed.{is_step}
use Rattle.jc_engine.specs.Results.{of_found}

-- the outcome is the manager's answer to an event, memory being refused where it says so
abbrev pub IsAnswer : List (Option Cache) → Event → Outcome → Type 0
IsAnswer caches event outcome = outcome ≡ answer_to (lives_of caches) event (for_memory outcome)

-- it is its answer where memory suffices
abbrev pub IsFreeAnswer : List (Option Cache) → Event → Outcome → Type 0
IsFreeAnswer caches event outcome = outcome ≡ answer_to (lives_of caches) event false

-- an event that takes no memory has that answer
abbrev pub FreeIsAnswered : List (Option Cache) → Event → Outcome → Type 0
FreeIsAnswered caches event outcome = takes_none event ≡ true → IsFreeAnswer caches event outcome

-- a call finds this value at once
abbrev pub FindsValue : List (Option Cache) → ℕ → ℕ → Call → Option (List ℕ) → Type 0
FindsValue caches id now call value = IsFreeAnswer caches (Begin id now call) (of_found value)

-- why an event gets no step where memory suffices: this cause, or none where it gets one
abbrev pub IsRefusal : List (Option Cache) → Event → Option Cause → Type 0
IsRefusal caches event refusal =
    MatchOption refusal (is_step (answer_to (lives_of caches) event false) ≡ true) (λ cause. answer_to (lives_of caches) event false ≡ Refused cause)

-- an event with this outcome leads from these caches to those
abbrev pub LeadsTo : List (Option Cache) → Event → Outcome → List (Option Cache) → Type 0
LeadsTo old event outcome new = lives_of new ≡ lives_after (lives_of old) event outcome

-- and so do the events of a run
abbrev pub RunLeadsTo : List (Option Cache) → List Event → List Outcome → List (Option Cache) → Type 0
RunLeadsTo old events outcomes new = lives_of new ≡ lives_in_end (lives_of old) events outcomes
