-- The outcome that a recorded call's result stands for, and what is in its step.
use Rattle.std.specs.Prelude.{ℕ, List, Result, Ok, Err}
use Rattle.std.specs.Prelude.{Option, Some, None}
use Rattle.jc_model.specs.declared.call.Call.{Call}
use Rattle.jc_model.specs.declared.call.Answer.{Answer}
use Rattle.jc_model.specs.declared.call.Reply.{Reply}
use Rattle.jc_model.specs.declared.call.Reply.TheVariants.{Found}
use Rattle.jc_model.specs.declared.event.Step.{Step}
use Rattle.jc_model.specs.declared.event.Step.TheVariants.{Done, Need}
use Rattle.jc_model.specs.declared.event.Cause.{Cause}
use Rattle.jc_model.specs.declared.event.Outcome.{Outcome}
use Rattle.jc_model.specs.declared.event.Outcome.TheVariants.{Step as Stepped, Refused}

-- the result has a copy of the reply beside the step
abbrev pub of_recorded_begin : Result (Step × Option Reply) (Cause × Call) → Outcome
of_recorded_begin (Ok s) = Stepped s.0
of_recorded_begin (Err e) = Refused e.0

abbrev pub of_recorded_resume : Result (Step × Option Reply) (Cause × Answer) → Outcome
of_recorded_resume (Ok s) = Stepped s.0
of_recorded_resume (Err e) = Refused e.0

-- the reply that a step shows, if it does
abbrev pub reply_in : Step → Option Reply
reply_in (Done reply) = Some reply
reply_in (Need request) = None

-- the value in a reply, if there is one
abbrev pub found_in : Reply → Option (List ℕ)
found_in (Found value) = value
found_in _ = None
