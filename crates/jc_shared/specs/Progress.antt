-- How far a session has brought a call.
use Rattle.std.specs.Prelude.{◌≡◌, ◌⊎◌, ◌+◌, ◌++◌, ◌∷◌, [], ℕ, List, length, Result, Ok, Err}
use Rattle.jc_model.specs.declared.call.Answer.{Answer}
use Rattle.jc_model.specs.declared.call.Call.{Call}
use Rattle.jc_model.specs.declared.call.Notice.{Notice}
use Rattle.jc_model.specs.declared.call.Reply.{Reply}
use Rattle.jc_model.specs.declared.config.CacheConfig.{CacheConfig}
use Rattle.jc_model.specs.declared.event.End.{End}
use Rattle.jc_model.specs.declared.event.End.TheVariants as ends
use Rattle.jc_model.specs.declared.event.Entry.{Entry}
use Rattle.jc_model.specs.declared.event.Event.TheVariants as event
use Rattle.jc_model.specs.declared.event.Step.{Step}
use Rattle.jc_model.specs.declared.event.Step.TheVariants.{Done, Need}
use Rattle.jc_model.specs.Asking.{AsksOf}
use Rattle.jc_engine.specs.Changed.{begun_entry, replied_at_once}
use Rattle.jc_engine.specs.Recording.{blank}
use Rattle.jc_engine.specs.declared.journal.change.CallHeader.{CallHeader}
use Rattle.jc_locked.specs.Calls.{EntryIsLast, IsBeginFault, call_entry}
use Rattle.jc_locked.specs.Counting.{event_count}
use Rattle.jc_locked.specs.Living.{IsMissing}
use Rattle.jc_locked.specs.declared.fault.CallFault.{CallFault}
use Rattle.jc_locked.specs.declared.fault.CallFault.TheVariants as faults
use Rattle.jc_shared.specs.declared.pending.Progress.{Progress}
use Rattle.jc_shared.specs.declared.pending.Progress.TheVariants as progress
use Rattle.jc_locked.specs.Pending.{Pending, AddsEntry}
use Rattle.jc_locked.specs.Sessions.{Sitting}

-- by one event that was accepted the call of this entry has its reply, and the session has it among its own calls; or it
-- waits, for what it asks for itself, and the session is as it was
abbrev pub IsBroughtTo : List CacheConfig → Sitting → Sitting → Entry → Progress Pending → Type 0
IsBroughtTo configs old new e (progress.Replied reply) = AddsEntry configs old new (record e { end = ends.Replied reply })
IsBroughtTo configs old new e (progress.Waits p) = (new ≡ record old { accepted = old.accepted + 1 }) × (p.draft ≡ e) × AsksOf e.call p.request

-- what a tenure of the lock has brought a call to is shown so
abbrev pub ShowsAs : Sitting → Entry → Step → Sitting → Progress Pending → Type 0
ShowsAs old e (Done reply) new (progress.Replied shown) = (shown ≡ reply) × (new ≡ record old { calls = old.calls ++ e ∷ [] })
ShowsAs old e (Need request) new (progress.Waits p) = (p ≡ record { draft = e; request = request }) × (new ≡ old)
ShowsAs old e _ new _ = ⊥

-- a call that has begun is added to a list: with its reply, where it has it at once, or as one that waits
abbrev pub AddsBegun : CallHeader → Step → List Entry → List Entry → Result Reply CallFault → Type 0
AddsBegun begun step old new (Ok reply) = (step ≡ Done reply) × (new ≡ old ++ replied_at_once begun reply ∷ [])
AddsBegun begun step old new (Err fault) = (fault ≡ faults.Overtaken) × (new ≡ old ++ begun_entry begun ∷ [])

-- the session's list has grown by the call of this entry, which was given some answers, has told some notices, and ended
-- so; so many of its events were accepted before, and since then the others, each once
pub record AddsCallFrom (configs : List CacheConfig) (before : ℕ) (old new : Sitting) (e : Entry) (n : End) : Type 0 where
  pub answers : List Answer
  pub told : List Notice
  pub added : new.calls ≡ old.calls ++ call_entry e.session e.id e.at e.call answers told n ∷ []
  pub stands : EntryIsLast configs (call_entry e.session e.id e.at e.call answers told n) new.pass
  pub accepted : new.accepted + before ≡ old.accepted + event_count answers n

-- from its begin on
abbrev pub AddsCall : List CacheConfig → Sitting → Sitting → Entry → End → Type 0
AddsCall configs old new e n = AddsCallFrom configs 0 old new e n

-- of a call that waits, from there on
abbrev pub AddsWaited : List CacheConfig → Sitting → Sitting → Entry → End → Type 0
AddsWaited configs old new e n = AddsCallFrom configs (length e.answers + 1) old new e n

-- the session is as it was, but for events of a call that is open now
abbrev pub LeavesOpen : Sitting → Sitting → Type 0
LeavesOpen old new = new ≡ record old { accepted = new.accepted }

-- why a call that waits has no reply: it was given up, or the manager has no such call
abbrev pub EndsBy : List CacheConfig → Sitting → Sitting → Entry → CallFault → Type 0
EndsBy configs old new e faults.OutOfMemory = AddsWaited configs old new e ends.GivenUp
EndsBy configs old new e faults.Overtaken = LeavesOpen old new
EndsBy configs old new e fault = ⊥

-- why a call has no reply, whose requests were answered by what was lent to it
abbrev pub FailsBy : List CacheConfig → Sitting → Sitting → ℕ → ℕ → Call → CallFault → Type 0
FailsBy configs old new id at call faults.OutOfMemory = (new ≡ old) ⊎ AddsCall configs old new (blank old.number id at call) ends.GivenUp
FailsBy configs old new id at call faults.Overtaken = LeavesOpen old new
FailsBy configs old new id at call faults.NoSuchCache = (new ≡ old) × IsMissing configs id (event.Begin id at call)
FailsBy configs old new id at call fault = (new ≡ old) × IsBeginFault configs id at call fault
