-- A manager with the transcript of its calls.
use Rattle.std.specs.Prelude.{◌≡◌, ◌⊎◌, ℕ, false, List, [], ◌∷◌, ◌++◌, slice_get, slice_set}
use Rattle.std.specs.Prelude.{Option, Some, None}
use Rattle.jc_model.specs.declared.call.Call.{Call}
use Rattle.jc_model.specs.declared.call.Notice.{Notice}
use Rattle.jc_model.specs.declared.event.End.TheVariants.{Waiting}
use Rattle.jc_model.specs.declared.config.CacheConfig.{CacheConfig}
use Rattle.jc_model.specs.declared.event.Entry.{Entry}
use Rattle.jc_model.specs.declared.event.Event.{Event}
use Rattle.jc_model.specs.declared.event.Outcome.{Outcome}
use Rattle.jc_model.specs.declared.event.Outcome.TheVariants.{Step as Stepped, GivenUp}
use Rattle.jc_model.specs.Run.{Awaited, told_by}
use Rattle.jc_model.specs.Places.{at_place}
use Rattle.jc_model.specs.Legal.{History, Tells, recorded, with_outcome}
use Rattle.jc_model.specs.Suspended.{Wait}
use Rattle.jc_ops.specs.Noted.{Noted}
use Rattle.jc_engine.specs.declared.journal.change.Origin.{Origin}
use Rattle.jc_engine.specs.declared.turn.EngineStep.{EngineStep}
use Rattle.jc_engine.specs.declared.turn.EngineStep.TheVariants.{Replied, Asked, Told}
use Rattle.jc_engine.specs.Caches.{Cache, lives_of}
use Rattle.jc_engine.specs.Managed.{is_telling, step_of}

-- the caches by id, and the transcript
pub record Recording : Type 0 where
  pub caches : List (Option Cache)
  pub transcript : History

-- the transcript tells how the caches have come to stand as they do
abbrev pub TellsItsCaches : Recording → Type 0
TellsItsCaches r = Tells r.transcript (lives_of r.caches)

-- the transcript is what an event of this session with this outcome makes of it
abbrev pub RecordsEvent : ℕ → Event → Outcome → Recording → Recording → Type 0
RecordsEvent session event outcome old new = new.transcript ≡ recorded session event outcome old.transcript

-- whatever its session
abbrev pub RecordsFromAny : Event → Outcome → Recording → Recording → Type 0
RecordsFromAny event outcome old new = (session : ℕ) → RecordsEvent session event outcome old new

-- this entry is the last
abbrev pub IsLastOf : List Entry → Entry → Type 0
IsLastOf transcript entry = (before : List Entry) × (transcript ≡ before ++ entry ∷ [])

-- the entry of a cache's open call stands at this place
pub record HasOpen (transcript : List Entry) (id place : ℕ) : Type 0 where
  pub entry : Entry
  pub there : slice_get transcript place ≡ Some entry
  pub own : entry.id ≡ id
  pub waits : entry.end ≡ Waiting

-- this entry, of a cache's open call, stands at this place
pub record IsEntryOf (transcript : List Entry) (id place : ℕ) (entry : Entry) : Type 0 where
  pub there : slice_get transcript place ≡ Some entry
  pub own : entry.id ≡ id
  pub waits : entry.end ≡ Waiting

-- it stands somewhere
abbrev pub HasOpenEntry : List Entry → ℕ → Entry → Type 0
HasOpenEntry transcript id entry = (place : ℕ) × IsEntryOf transcript id place entry

-- these notices are left of a cache's open call: nothing of it had been told, or nothing is left
abbrev pub AreLeftOf : List Entry → ℕ → List Notice → Type 0
AreLeftOf transcript id left =
    (place : ℕ) × (entry : Entry) × IsEntryOf transcript id place entry × ((entry.told ≡ []) ⊎ (left ≡ []))

-- the entry of a call that waits stands at this place; nothing has been told of it before its notices are told
pub record IsOpenAt (transcript : List Entry) (id place : ℕ) (w : Awaited × Wait) : Type 0 where
  pub entry : Entry
  pub there : slice_get transcript place ≡ Some entry
  pub own : entry.id ≡ id
  pub waits : entry.end ≡ Waiting
  pub untold : is_telling w.1 ≡ false → entry.told ≡ []

abbrev pub HasEntry : List Entry → ℕ → Option ℕ → Option (Awaited × Wait) → Type 0
HasEntry transcript id place None = Unit {0}
HasEntry transcript id None (Some w) = ⊥
HasEntry transcript id (Some place) (Some w) = IsOpenAt transcript id place w

-- what is true of a recorded manager: by cache, where its open call's entry stands
pub record IsRecorded (caches : List (Option Cache)) (transcript : History) (places : ℕ → Option ℕ) : Type 0 where
  pub told : Tells transcript (lives_of caches)
  pub opened : (id : ℕ) (k : Cache) → at_place caches id ≡ Some k → HasEntry transcript.entries id (places id) k.turn

abbrev pub with_entries : List Entry → History → History
with_entries entries h = record { lives = h.lives; entries = entries }

-- an entry more, the last
abbrev pub with_entry : Entry → History → History
with_entry entry h = with_entries (h.entries ++ entry ∷ []) h

-- another entry at a place
abbrev pub with_entry_at : ℕ → Entry → History → History
with_entry_at place entry h = with_entries (slice_set h.entries place entry) h

-- a life more
abbrev pub with_life : ℕ → CacheConfig → History → History
with_life id c h = record { lives = h.lives ++ record { id = id; config = c } ∷ []; entries = h.entries }

-- an entry to which this may be written
abbrev pub CanTell : EngineStep → Entry → Type 0
CanTell (Replied reply) e = Unit {0}
CanTell (Asked request) e = told_by request ≡ []
CanTell (Told notices) e = e.told ≡ []

-- the entry of a call that begins
abbrev pub blank : ℕ → ℕ → ℕ → Call → Entry
blank session id now call = record { session = session; id = id; at = now; call = call; answers = []; told = []; end = Waiting }

-- and of one of this origin
abbrev pub blank_of : Origin → Call → Entry
blank_of origin call = blank origin.session origin.id origin.at call

-- the notices that a give-up hands out
abbrev pub left_in : Option Noted → List Notice
left_in None = []
left_in (Some left) = left.told

-- the entry of a call that has come to this
abbrev pub with_advance : EngineStep → Entry → Entry
with_advance advance entry = with_outcome (Stepped (step_of advance)) entry

-- and of one that was given up, where this was left
abbrev pub with_give_up : Option Noted → Entry → Entry
with_give_up left entry = with_outcome (GivenUp (left_in left)) entry
