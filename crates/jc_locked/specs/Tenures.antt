-- What one tenure of the lock does to the recorded engine under it.
use Rattle.std.specs.Prelude.{◌≡◌, ◌++◌, ℕ, List}
use Rattle.jc_model.specs.declared.call.Answer.{Answer}
use Rattle.jc_model.specs.declared.call.Notice.{Notice}
use Rattle.jc_model.specs.declared.event.Cause.{Cause}
use Rattle.jc_model.specs.declared.event.Cause.TheVariants as causes
use Rattle.jc_model.specs.declared.event.Entry.{Entry}
use Rattle.jc_model.specs.declared.event.Event.{Event}
use Rattle.jc_model.specs.declared.event.Event.TheVariants as event
use Rattle.jc_model.specs.declared.event.Outcome.{Outcome}
use Rattle.jc_model.specs.declared.event.Outcome.TheVariants as outcome
use Rattle.jc_model.specs.Runs.{Lives, answer_to, lives_after, for_memory}
use Rattle.jc_model.specs.Legal.{recorded}
use Rattle.jc_engine.specs.Caches.{lives_of}
use Rattle.jc_engine.specs.Recording.{Recording}
use Rattle.jc_locked.specs.declared.fault.CallFault.{CallFault}
use Rattle.jc_locked.specs.declared.fault.AnswerFault.{AnswerFault}
use Rattle.jc_locked.specs.declared.fault.AnswerFault.TheVariants as answering
use Rattle.jc_locked.specs.Finding.{fault_of, IsOpenIn, IsOvertakenIn}

-- the engine has taken this one event of a session, and answered it so
pub record IsTenure (old new : Recording) (session : ℕ) (event : Event) (o : Outcome) : Type 0 where
  pub answered : o ≡ answer_to (lives_of old.caches) event (for_memory o)
  pub transcript : new.transcript ≡ recorded session event o old.transcript
  pub lives : lives_of new.caches ≡ lives_after (lives_of old.caches) event o

-- the engine refuses an event so where these caches are live
abbrev pub IsRefusedEvent : Lives → Event → Cause → Type 0
IsRefusedEvent lives event cause = outcome.Refused cause ≡ answer_to lives event (for_memory (outcome.Refused cause))

-- a call that was to begin is told so why it is refused
pub record IsRefusedCall (lives : Lives) (event : Event) (fault : CallFault) : Type 0 where
  pub cause : Cause
  pub told : fault ≡ fault_of cause
  pub refusal : IsRefusedEvent lives event cause

-- why an answer brings the draft's call no further, which has been given these before
abbrev pub StopsDraft : Recording → Entry → List Answer → Answer → AnswerFault → Type 0
StopsDraft old draft answers a answering.WrongAnswer =
    IsOpenIn old draft answers × IsRefusedEvent (lives_of old.caches) (event.Answer draft.id a) causes.WrongAnswer
StopsDraft old draft answers a answering.OutOfMemory =
    IsOpenIn old draft answers × IsRefusedEvent (lives_of old.caches) (event.Answer draft.id a) causes.OutOfMemory
StopsDraft old draft answers a answering.Overtaken = IsOvertakenIn old draft answers

-- the draft's call was given up, and has these notices then: those that were told, and those that are left
pub record GivesUpDraft (old new : Recording) (draft : Entry) (told : List Notice) : Type 0 where
  pub left : List Notice
  pub tenure : IsTenure old new draft.session (event.GiveUp draft.id) (outcome.GivenUp left)
  pub notices : told ≡ draft.told ++ left
