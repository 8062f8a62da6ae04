-- Calls that their callers carry on.
use Rattle.std.specs.Prelude.{◌≡◌, ◌+◌, ◌++◌, ◌∷◌, [], ℕ, List, Option, Some, None, ⊤}
use Rattle.jc_model.specs.declared.call.Answer.{Answer}
use Rattle.jc_model.specs.declared.call.Call.{Call}
use Rattle.jc_model.specs.declared.call.Notice.{Notice}
use Rattle.jc_model.specs.declared.call.Request.{Request}
use Rattle.jc_model.specs.declared.call.Request.TheVariants.{Tell}
use Rattle.jc_model.specs.declared.config.CacheConfig.{CacheConfig}
use Rattle.jc_model.specs.declared.event.Cause.TheVariants as causes
use Rattle.jc_model.specs.declared.event.End.TheVariants as ends
use Rattle.jc_model.specs.declared.event.Entry.{Entry}
use Rattle.jc_model.specs.declared.event.Event.TheVariants as event
use Rattle.jc_locked.specs.declared.fault.AnswerFault.{AnswerFault}
use Rattle.jc_locked.specs.declared.fault.AnswerFault.TheVariants as answering
use Rattle.jc_locked.specs.declared.fault.CallFault.{CallFault}
use Rattle.jc_locked.specs.declared.fault.CallFault.TheVariants as faults
use Rattle.jc_locked.specs.Calls.{EntryIsLast, IsBeginFault}
use Rattle.jc_locked.specs.Living.{Refuses}
use Rattle.jc_locked.specs.Serving.{told_behind}
use Rattle.jc_locked.specs.Sessions.{Sitting}

-- a call that waits: its entry before the request, and the request
pub record Pending : Type 0 where
  pub draft : Entry
  pub request : Request

abbrev pub EndsWaiting : Entry → Type 0
EndsWaiting e = e.end ≡ ends.Waiting

-- a request that tells nothing
abbrev pub unless_telling : Request → Option Request
unless_telling (Tell notices) = None
unless_telling q = Some q

-- the entry of a call behind an answer to its request; what the request tells has been told
abbrev pub answered_entry : Pending → Answer → Entry
answered_entry p a = record p.draft { answers = p.draft.answers ++ a ∷ []; told = told_behind p.request p.draft.told }

-- given up, where these notices were left
abbrev pub given_up_entry : Pending → List Notice → Entry
given_up_entry p left = record p.draft { told = told_behind p.request p.draft.told ++ left; end = ends.GivenUp }

-- by one event that was accepted a session's list has grown by this entry, of which its pass has seen all
pub record AddsEntry (configs : List CacheConfig) (old new : Sitting) (e : Entry) : Type 0 where
  pub added : new.calls ≡ old.calls ++ e ∷ []
  pub stands : EntryIsLast configs e new.pass
  pub accepted : new.accepted ≡ old.accepted + 1

-- why a call does not begin; memory may be refused to its entry alone
abbrev pub IsRefusedBegin : List CacheConfig → ℕ → ℕ → Call → CallFault → Type 0
IsRefusedBegin configs id at call faults.OutOfMemory = ⊤
IsRefusedBegin configs id at call fault = IsBeginFault configs id at call fault

-- why a call does not take an answer
abbrev pub IsRefusedAnswer : List CacheConfig → ℕ → Answer → AnswerFault → Type 0
IsRefusedAnswer configs id a answering.WrongAnswer = Refuses configs (event.Answer id a) causes.WrongAnswer
IsRefusedAnswer configs id a answering.Overtaken = ⊤
IsRefusedAnswer configs id a answering.OutOfMemory = ⊤
