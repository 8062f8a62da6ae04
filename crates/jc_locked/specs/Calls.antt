-- What a session knows of its calls.
use Rattle.std.specs.Prelude.{◌≡◌, ◌⊎◌, ◌+◌, ℕ, false, List, [], ◌∷◌, ◌++◌, slice_get, Option, Some, None, IsSome, Result, Ok, Err, ⊤}
use Rattle.jc_model.specs.declared.call.Answer.{Answer}
use Rattle.jc_model.specs.declared.call.Call.{Call}
use Rattle.jc_model.specs.declared.call.Notice.{Notice}
use Rattle.jc_model.specs.declared.call.Reply.{Reply}
use Rattle.jc_model.specs.declared.call.Request.{Request}
use Rattle.jc_model.specs.declared.config.CacheConfig.{CacheConfig}
use Rattle.jc_model.specs.declared.event.Cause.TheVariants as causes
use Rattle.jc_model.specs.declared.event.End.{End}
use Rattle.jc_model.specs.declared.event.End.TheVariants as end
use Rattle.jc_model.specs.declared.event.Entry.{Entry}
use Rattle.jc_model.specs.declared.event.Event.{Event}
use Rattle.jc_model.specs.declared.event.Event.TheVariants as event
use Rattle.jc_model.specs.declared.event.Step.{Step}
use Rattle.jc_model.specs.declared.event.Step.TheVariants.{Done, Need}
use Rattle.jc_model.specs.Runs.{Lives, has_processor}
use Rattle.jc_model.specs.Legal.{History, IsLegal, entries_of}
use Rattle.jc_locked.specs.declared.fault.CallFault.{CallFault}
use Rattle.jc_locked.specs.declared.fault.CallFault.TheVariants.{NoSuchCache, NoSuchProcessor, Busy, Overtaken, OutOfMemory}
use Rattle.jc_model.specs.Asking.{AsksOf, processor_invoked}
use Rattle.jc_locked.specs.Counting.{event_count}
use Rattle.jc_locked.specs.Finding.{entry_ended_by}
use Rattle.jc_locked.specs.Sessions.{Sitting, Sight, BeginsWith, Sees}
use Rattle.jc_locked.specs.Living.{Refuses, IsMissing}
use Rattle.jc_locked.specs.Stated.{Stated, AreStated}
use Rattle.jc_model.specs.Places.{at_place}

-- the cache is one of the opening, and has not the processor that the call names
pub record LacksProcessor (configs : List CacheConfig) (id : ℕ) (call : Call) : Type 0 where
  pub config : CacheConfig
  pub there : slice_get configs id ≡ Some config
  pub lacks : has_processor config call ≡ false

-- the call names a processor, which the cache has not, where it is one of the opening
pub record MayLackProcessor (configs : List CacheConfig) (id : ℕ) (call : Call) : Type 0 where
  pub names : IsSome (processor_invoked call)
  pub lacks : (c : CacheConfig) → slice_get configs id ≡ Some c → has_processor c call ≡ false

-- why a call does not begin
abbrev pub IsBeginFault : List CacheConfig → ℕ → ℕ → Call → CallFault → Type 0
IsBeginFault configs id at call NoSuchCache = Refuses configs (event.Begin id at call) causes.NoSuchCache
IsBeginFault configs id at call NoSuchProcessor = Refuses configs (event.Begin id at call) causes.NoSuchProcessor × MayLackProcessor configs id call
IsBeginFault configs id at call Busy = Refuses configs (event.Begin id at call) causes.Busy
IsBeginFault configs id at call Overtaken = ⊥
IsBeginFault configs id at call OutOfMemory = Refuses configs (event.Begin id at call) causes.OutOfMemory

-- how a lacking processor is told: as that, unless the cache is not found or its callbacks can't be shared
abbrev pub TellsLack : Result Reply CallFault → Type 0
TellsLack (Ok reply) = ⊥
TellsLack (Err NoSuchCache) = ⊤
TellsLack (Err NoSuchProcessor) = ⊤
TellsLack (Err Busy) = ⊥
TellsLack (Err Overtaken) = ⊥
TellsLack (Err OutOfMemory) = ⊤

-- the entry is the last of its cache in a legal transcript that begins with these caches, and of which the pass has
-- seen all
pub record EntryIsLast (configs : List CacheConfig) (e : Entry) (pass : Sight) : Type 0 where
  pub transcript : History
  pub legal : IsLegal transcript
  pub begins : BeginsWith configs transcript
  pub before : List Entry
  pub last : entries_of e.id transcript.entries ≡ before ++ e ∷ []
  pub lives : Lives
  pub shown : IsSome (at_place lives e.id)
  pub sees : Sees transcript lives pass

-- the entry of a call, by what it was told and how it ended
abbrev pub call_entry : ℕ → ℕ → ℕ → Call → List Answer → List Notice → End → Entry
call_entry session id at call answers told n =
    record { session = session; id = id; at = at; call = call; answers = answers; told = told; end = n }

-- an entry of the same call
abbrev pub IsSameCall : Entry → Entry → Type 0
IsSameCall old new = new ≡ call_entry old.session old.id old.at old.call new.answers new.told new.end

-- a call has ended so, in a legal transcript, with answers that were stated
pub record HasEnded (configs : List CacheConfig) (stated : List Stated) (e : Entry) (pass : Sight) (n : End) : Type 0 where
  pub ended : e.end ≡ n
  pub stands : EntryIsLast configs e pass
  pub answered : AreStated (slice_get stated e.id) e.call e.answers

-- a call waits for the answer to a request of its own, after answers that were stated
pub record EntryWaits (stated : List Stated) (e : Entry) (request : Request) : Type 0 where
  pub waits : e.end ≡ end.Waiting
  pub asks : AsksOf e.call request
  pub answered : AreStated (slice_get stated e.id) e.call e.answers

-- how a call stands
abbrev pub CallStands : List CacheConfig → List Stated → Step → Entry → Sight → Type 0
CallStands configs stated (Need request) e pass = EntryWaits stated e request
CallStands configs stated (Done reply) e pass = HasEnded configs stated e pass (end.Replied reply)

-- how it ends without a reply; where it was overtaken its entry waits for ever
abbrev pub CallEndsFaulty : List CacheConfig → List Stated → CallFault → Entry → Sight → Type 0
CallEndsFaulty configs stated OutOfMemory e pass = HasEnded configs stated e pass end.GivenUp
CallEndsFaulty configs stated Overtaken e pass = e.end ≡ end.Waiting
CallEndsFaulty configs stated fault e pass = ⊥

-- a tenure of the lock has brought the call on
abbrev pub CallGoesOn : List CacheConfig → Entry → Step → Entry → Sight → Type 0
CallGoesOn configs old (Need request) new pass = (new ≡ old) × AsksOf old.call request
CallGoesOn configs old (Done reply) new pass = (new ≡ record old { end = end.Replied reply }) × EntryIsLast configs new pass

-- and its entry ends by this copy of the reply, if there is one
abbrev pub CallGoesOnTo : List CacheConfig → Entry → Step → Option Reply → Sight → Type 0
CallGoesOnTo configs old step copy pass = CallGoesOn configs old step (entry_ended_by copy old) pass

-- the session's list has grown by this call, of which each event was accepted
pub record Adds (configs : List CacheConfig) (stated : List Stated) (old new : Sitting) (id at : ℕ) (call : Call) (n : End) : Type 0 where
  pub answers : List Answer
  pub told : List Notice
  pub added : new.calls ≡ old.calls ++ call_entry old.number id at call answers told n ∷ []
  pub stands : EntryIsLast configs (call_entry old.number id at call answers told n) new.pass
  pub answered : AreStated (slice_get stated id) call answers
  pub accepted : new.accepted ≡ old.accepted + event_count answers n

-- or by an entry that waits, with which no manager closes
pub record AddsWaiting (old new : Sitting) (id at : ℕ) (call : Call) : Type 0 where
  pub answers : List Answer
  pub told : List Notice
  pub added : new.calls ≡ old.calls ++ call_entry old.number id at call answers told end.Waiting ∷ []
  pub accepted : new.accepted ≡ old.accepted + event_count answers end.Waiting

-- of a cache that a session has created the engine says so itself
abbrev pub IsLacking : List CacheConfig → ℕ → Event → Type 0
IsLacking configs id event = slice_get configs id ≡ None → Refuses configs event causes.NoSuchProcessor

-- why a call has no reply, and what it adds; one that did not begin leaves the session as it was
abbrev pub CallFails : List CacheConfig → List Stated → Sitting → Sitting → ℕ → ℕ → Call → CallFault → Type 0
CallFails configs stated old new id at call OutOfMemory = (new ≡ old) ⊎ Adds configs stated old new id at call end.GivenUp
CallFails configs stated old new id at call Overtaken = AddsWaiting old new id at call
CallFails configs stated old new id at call Busy = (new ≡ old) × Refuses configs (event.Begin id at call) causes.Busy
CallFails configs stated old new id at call NoSuchCache = (new ≡ old) × IsMissing configs id (event.Begin id at call)
CallFails configs stated old new id at call NoSuchProcessor = (new ≡ old) × MayLackProcessor configs id call × IsLacking configs id (event.Begin id at call)
