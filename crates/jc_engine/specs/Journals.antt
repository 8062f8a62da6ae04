-- What a journal keeps of the calls of a manager.
use Rattle.std.specs.Prelude.{◌≡◌, ℕ, false, [], length, Option, Some, None, IsSome, slice_get}
use Rattle.jc_model.specs.declared.call.Answer.{Answer}
use Rattle.jc_model.specs.declared.call.Call.{Call}
use Rattle.jc_model.specs.declared.event.End.TheVariants.{Waiting}
use Rattle.jc_model.specs.declared.event.Entry.{Entry}
use Rattle.jc_model.specs.Legal.{History, with_answer}
use Rattle.jc_model.specs.declared.config.CacheConfig.{CacheConfig}
use Rattle.jc_ops.specs.Noted.{Noted}
use Rattle.jc_engine.specs.declared.turn.EngineStep.{EngineStep}
use Rattle.jc_engine.specs.Managed.{is_replied}
use Rattle.jc_engine.specs.Recording.{CanTell, with_entry, with_entry_at, with_life, with_advance, with_give_up}

-- the entry at the place that is kept
abbrev pub kept_at : History → Option ℕ → Option Entry
kept_at h None = None
kept_at h (Some place) = slice_get h.entries place

-- the entry of a cache's open call stands at the place that is kept of it
pub record IsKept (h : History) (places : ℕ → Option ℕ) (id place : ℕ) (entry : Entry) : Type 0 where
  pub at : places id ≡ Some place
  pub there : slice_get h.entries place ≡ Some entry
  pub own : entry.id ≡ id
  pub waits : entry.end ≡ Waiting

-- the places that are kept are what they were
abbrev pub KeepsAll : (ℕ → Option ℕ) → (ℕ → Option ℕ) → Type 0
KeepsAll old new = (id : ℕ) → new id ≡ old id

-- those of the other caches are
abbrev pub KeepsOthers : (ℕ → Option ℕ) → ℕ → (ℕ → Option ℕ) → Type 0
KeepsOthers old id new = (other : ℕ) → (other ≡ id → ⊥) → new other ≡ old other

-- and that of this cache's call is this one, where it goes on
pub record Keeps (old : ℕ → Option ℕ) (id place : ℕ) (advance : EngineStep) (new : ℕ → Option ℕ) : Type 0 where
  pub others : KeepsOthers old id new
  pub own : is_replied advance ≡ false → new id ≡ Some place

-- and that of this cache's call is the one behind all entries
abbrev pub KeepsLast : (ℕ → Option ℕ) → ℕ → History → EngineStep → (ℕ → Option ℕ) → Type 0
KeepsLast old id h advance new = Keeps old id (length h.entries) advance new

-- A call that is about to begin: a journal knows over which history, and with which entry.

-- it can come to this
abbrev pub CanBegin : (History → Entry → Type 0) → EngineStep → Type 0
CanBegin Enters advance =
    (h : History) × (entry : Entry) × Enters h entry × (entry.end ≡ Waiting) × CanTell advance entry

-- it does not begin: it is handed back, and the history is what it was
abbrev pub TakesBack : (History → Entry → Type 0) → Call → History → Type 0
TakesBack Enters call new = (h : History) (entry : Entry) → Enters h entry → (call ≡ entry.call) × (new ≡ h)

-- it has begun and come to this: its entry is the last
abbrev pub BeginsEntry : (History → Entry → Type 0) → EngineStep → History → Type 0
BeginsEntry Enters advance new =
    (h : History) (entry : Entry) → Enters h entry → entry.end ≡ Waiting → CanTell advance entry → new ≡ with_entry (with_advance advance entry) h

-- its place is kept where it goes on
abbrev pub KeepsBegun : (History → Entry → Type 0) → (ℕ → Option ℕ) → EngineStep → (ℕ → Option ℕ) → Type 0
KeepsBegun Enters old advance new = (h : History) (entry : Entry) → Enters h entry → KeepsLast old entry.id h advance new

-- The entry that is kept of a cache's open call.

-- there is one
abbrev pub KeepsEntry : History → (ℕ → Option ℕ) → ℕ → Type 0
KeepsEntry h places id = (place : ℕ) × (entry : Entry) × IsKept h places id place entry

-- and its call can come to this
abbrev pub CanGoOn : History → (ℕ → Option ℕ) → ℕ → EngineStep → Type 0
CanGoOn h places id advance = (place : ℕ) × (entry : Entry) × IsKept h places id place entry × CanTell advance entry

-- or be given up, where this is left
abbrev pub CanGiveUp : History → (ℕ → Option ℕ) → ℕ → Option Noted → Type 0
CanGiveUp h places id left =
    (place : ℕ) × (entry : Entry) × IsKept h places id place entry × (IsSome left → entry.told ≡ [])

-- it has an answer more
abbrev pub AnswersEntry : History → (ℕ → Option ℕ) → ℕ → Answer → History → Type 0
AnswersEntry h places id answer new =
    (place : ℕ) (entry : Entry) → IsKept h places id place entry → new ≡ with_entry_at place (with_answer answer entry) h

-- its last answer is gone
abbrev pub TakesAnswer : History → (ℕ → Option ℕ) → ℕ → History → Type 0
TakesAnswer h places id new =
    (place : ℕ) (entry : Entry) (answer : Answer) → IsKept h places id place (with_answer answer entry) → new ≡ with_entry_at place entry h

-- its call has come to this
abbrev pub AdvancesEntry : History → (ℕ → Option ℕ) → ℕ → EngineStep → History → Type 0
AdvancesEntry h places id advance new =
    (place : ℕ) (entry : Entry) → IsKept h places id place entry → CanTell advance entry → new ≡ with_entry_at place (with_advance advance entry) h

-- its place is kept where the call goes on
abbrev pub KeepsPlace : History → (ℕ → Option ℕ) → ℕ → EngineStep → (ℕ → Option ℕ) → Type 0
KeepsPlace h old id advance new =
    (place : ℕ) (entry : Entry) → IsKept h old id place entry → Keeps old id place advance new

-- its call was given up, where this was left
abbrev pub GivesUp : History → (ℕ → Option ℕ) → ℕ → Option Noted → History → Type 0
GivesUp h places id left new =
    (place : ℕ) (entry : Entry) → IsKept h places id place entry → (IsSome left → entry.told ≡ []) → new ≡ with_entry_at place (with_give_up left entry) h

-- The entry at a place, in the same ways.

abbrev pub AnswersAt : ℕ → Answer → History → History → Type 0
AnswersAt place answer h new =
    (entry : Entry) → slice_get h.entries place ≡ Some entry → new ≡ with_entry_at place (with_answer answer entry) h

abbrev pub AdvancesAt : ℕ → EngineStep → History → History → Type 0
AdvancesAt place advance h new =
    (entry : Entry) → slice_get h.entries place ≡ Some entry → entry.end ≡ Waiting → CanTell advance entry → new ≡ with_entry_at place (with_advance advance entry) h

abbrev pub GivesUpAt : ℕ → Option Noted → History → History → Type 0
GivesUpAt place left h new =
    (entry : Entry) → slice_get h.entries place ≡ Some entry → (IsSome left → entry.told ≡ []) → new ≡ with_entry_at place (with_give_up left entry) h

-- the last life is gone
abbrev pub TakesLife : History → History → Type 0
TakesLife h new = (before : History) (id : ℕ) (config : CacheConfig) → h ≡ with_life id config before → new ≡ before
