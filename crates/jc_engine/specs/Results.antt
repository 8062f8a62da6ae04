-- The outcome that a call's result stands for.
use Rattle.std.specs.Prelude.{ℕ, List, Result, Ok, Err, Option}
use Rattle.jc_model.specs.declared.call.Call.{Call}
use Rattle.jc_model.specs.declared.call.Answer.{Answer}
use Rattle.jc_model.specs.declared.call.Notice.{Notice}
use Rattle.jc_model.specs.declared.call.Reply.TheVariants.{Found}
use Rattle.jc_model.specs.declared.config.CacheConfig.{CacheConfig}
use Rattle.jc_model.specs.declared.event.Step.{Step}
use Rattle.jc_model.specs.declared.event.Step.TheVariants.{Done}
use Rattle.jc_model.specs.declared.event.Cause.{Cause}
use Rattle.jc_model.specs.declared.event.Outcome.{Outcome}
use Rattle.jc_model.specs.declared.event.CreateRefusal.{CreateRefusal}
use Rattle.jc_model.specs.declared.event.Outcome.TheVariants.{Step as Stepped, Refused, GivenUp, Created, CreateRefused, Destroyed}

abbrev pub of_begin : Result Step (Cause × Call) → Outcome
of_begin (Ok step) = Stepped step
of_begin (Err e) = Refused e.0

abbrev pub of_resume : Result Step (Cause × Answer) → Outcome
of_resume (Ok step) = Stepped step
of_resume (Err e) = Refused e.0

abbrev pub of_give_up : Result (List Notice) Cause → Outcome
of_give_up (Ok notices) = GivenUp notices
of_give_up (Err cause) = Refused cause

abbrev pub of_create : Result ℕ (CreateRefusal × CacheConfig) → Outcome
of_create (Ok id) = Created id
of_create (Err e) = CreateRefused e.0

abbrev pub of_destroy : Result (Unit {0}) Cause → Outcome
of_destroy (Ok done) = Destroyed
of_destroy (Err cause) = Refused cause

-- of a get that has its reply at once
abbrev pub of_found : Option (List ℕ) → Outcome
of_found value = Stepped (Done (Found value))
