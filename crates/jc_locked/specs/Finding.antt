-- Where an open call stands in the transcript, and what it is told.
use Rattle.std.specs.Prelude.{◌≡◌, ◌⊎◌, ℕ, Bool, true, false, List, Option, Some, None, Result, Ok, Err, ⊤}
use Rattle.jc_model.specs.declared.call.Answer.{Answer}
use Rattle.jc_model.specs.declared.call.Reply.{Reply}
use Rattle.jc_model.specs.declared.event.Cause.{Cause}
use Rattle.jc_model.specs.declared.event.Cause.TheVariants as causes
use Rattle.jc_locked.specs.declared.fault.CallFault.{CallFault}
use Rattle.jc_locked.specs.declared.fault.CallFault.TheVariants.{NoSuchCache, NoSuchProcessor, Busy, Overtaken, OutOfMemory}
use Rattle.jc_locked.specs.declared.fault.AnswerFault.{AnswerFault}
use Rattle.jc_locked.specs.declared.fault.AnswerFault.TheVariants as answering
use Rattle.jc_model.specs.declared.event.Entry.{Entry}
use Rattle.jc_model.specs.declared.event.End.TheVariants as end
use Rattle.jc_model.specs.declared.event.Step.{Step}
use Rattle.jc_model.specs.declared.event.Step.TheVariants.{Done, Need}
use Rattle.jc_model.specs.Runs.{Lives}
use Rattle.jc_model.specs.Legal.{History, Tells}
use Rattle.jc_engine.specs.Caches.{lives_of}
use Rattle.jc_model.specs.Places.{at_place}
use Rattle.jc_engine.specs.Advances.{is_open_in}
use Rattle.jc_engine.specs.Recording.{Recording, HasOpen, HasOpenEntry}

-- why a call has no reply, by why the engine refuses it
abbrev pub fault_of : Cause → CallFault
fault_of causes.NoSuchCache = NoSuchCache
fault_of causes.NoSuchProcessor = NoSuchProcessor
fault_of causes.Busy = Busy
fault_of causes.NoTurn = Overtaken
fault_of causes.WrongAnswer = Overtaken
fault_of causes.OutOfMemory = OutOfMemory

-- why no further answer is taken, by why the engine refuses it
abbrev pub answer_fault_of : Cause → AnswerFault
answer_fault_of causes.OutOfMemory = answering.OutOfMemory
answer_fault_of causes.WrongAnswer = answering.WrongAnswer
answer_fault_of _ = answering.Overtaken

-- a call is accepted where its processor is there
abbrev pub ok_or_no_processor : Bool → Result ⊤ CallFault
ok_or_no_processor true = Ok tt
ok_or_no_processor false = Err NoSuchProcessor

-- the entry is of the draft's call, which has been given these answers
pub record IsOfCall (e draft : Entry) (answers : List Answer) : Type 0 where
  pub session : e.session ≡ draft.session
  pub at : e.at ≡ draft.at
  pub call : e.call ≡ draft.call
  pub given : e.answers ≡ answers
  pub told : e.told ≡ draft.told

-- the entry of the draft's cache's open call stands at this place, and is the draft's after these answers
pub record IsOpenFor (lives : Lives) (transcript : History) (draft : Entry) (answers : List Answer) (place : ℕ) : Type 0 where
  pub tells : Tells transcript lives
  pub opened : HasOpen transcript.entries draft.id place
  pub own : IsOfCall opened.entry draft answers

-- the open call of the draft's cache is the draft's
pub record IsOpen (lives : Lives) (transcript : History) (draft : Entry) (answers : List Answer) : Type 0 where
  pub place : ℕ
  pub here : IsOpenFor lives transcript draft answers place

-- so it is in a recorded engine
abbrev pub IsOpenIn : Recording → Entry → List Answer → Type 0
IsOpenIn r draft answers = IsOpen (lives_of r.caches) r.transcript draft answers

-- the draft's call is not the one that is open on its cache: none is, or another
abbrev pub IsOvertakenIn : Recording → Entry → List Answer → Type 0
IsOvertakenIn r draft answers =
    (is_open_in (at_place r.caches draft.id) ≡ false)
    ⊎ ((e : Entry) × HasOpenEntry r.transcript.entries draft.id e × (IsOfCall e draft answers → ⊥))

-- an entry with its call's reply, if it has one
abbrev pub entry_ended_by : Option Reply → Entry → Entry
entry_ended_by None e = e
entry_ended_by (Some reply) e = record e { end = end.Replied reply }

-- the step is a reply
abbrev pub IsReplied : Step → Type 0
IsReplied (Need request) = ⊥
IsReplied (Done reply) = ⊤
