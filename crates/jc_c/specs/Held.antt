-- What a call from C does to a handle.
use Rattle.std.specs.Prelude.{◌≡◌, ℕ, List, [], option_map, Result}
use Rattle.std.specs.Prelude.{Option, Some, None}
use Rattle.jc_model.specs.declared.call.Answer.{Answer}
use Rattle.jc_model.specs.declared.call.Call.{Call}
use Rattle.jc_model.specs.declared.event.Event.{Event}
use Rattle.jc_model.specs.declared.event.Outcome.{Outcome}
use Rattle.jc_model.specs.Places.{at_place}
use Rattle.jc_engine.specs.Caches.{Cache}
use Rattle.jc_c.specs.declared.ffi_settings.NewCache.{NewCache}
use Rattle.jc_c.specs.declared.items.Part.{Part}
use Rattle.jc_c.specs.declared.placer.FfiPlacer.{FfiPlacer}
use Rattle.jc_c.specs.declared.status.Fault.{Fault}
use Rattle.jc_c.specs.declared.status.Status.{Status}
use Rattle.jc_c.specs.declared.status.Status.TheVariants.{Closed, Done, InUse, OutOfMemory}
use Rattle.jc_c.specs.Status.{status_number}
use Rattle.jc_c.specs.Items.{Bytes}
use Rattle.jc_c.specs.Asked.{asked_at}
use Rattle.jc_c.specs.Looks.{value_found}
use Rattle.jc_c.specs.Names.{names_told}
use Rattle.jc_c.specs.Parts.{number_shown, part_shown, part_status}
use Rattle.jc_c.specs.Saved.{RestoresTold}
use Rattle.jc_c.specs.Seated.{Seated, DoesWithStatus, BeginsCall, BeginsCallOr, CreatesOr, ResumesCall, ResumesCallOr, fresh_seat, shown_of}
use Rattle.jc_c.specs.declared.exports.handle.Handle.{Handle}

-- the number is that of a status with which the manager does this
pub record TellsStatus (does : Status → Seated → Type 0) (number : ℕ) (new : Seated) : Type 0 where
  pub status : Status
  pub is : number ≡ status_number status
  pub done : does status new

-- the manager behind a handle does this and stays there; of a handle without one that is told, and it stays so
abbrev pub OnSeat : Option Seated → (Seated → Status → Seated → Type 0) → ℕ → Option Seated → Type 0
OnSeat None does number held = (number ≡ status_number Closed) × (held ≡ None)
OnSeat (Some old) does number None = ⊥
OnSeat (Some old) does number (Some new) = TellsStatus (does old) number new

-- What the manager behind a handle does.

-- it begins the call that bytes say
abbrev pub SeatBegins : ℕ → ℕ → Result Call Fault → Handle → ℕ → Handle → Type 0
SeatBegins id now said h number h' = OnSeat h.held (λ old status new. BeginsCall old id now said status new) number h'.held

-- the same, or memory was wanting before it was asked
abbrev pub SeatBeginsOr : ℕ → ℕ → Result Call Fault → Handle → ℕ → Handle → Type 0
SeatBeginsOr id now said h number h' = OnSeat h.held (λ old status new. BeginsCallOr old id now said status new) number h'.held

-- its open call gets the answer that bytes say
abbrev pub SeatResumes : ℕ → Result Answer Fault → Handle → ℕ → Handle → Type 0
SeatResumes id said h number h' = OnSeat h.held (λ old status new. ResumesCall old id said status new) number h'.held

-- the same, or memory was wanting
abbrev pub SeatResumesOr : ℕ → Result Answer Fault → Handle → ℕ → Handle → Type 0
SeatResumesOr id said h number h' = OnSeat h.held (λ old status new. ResumesCallOr old id said status new) number h'.held

-- it does what the model says at this event
abbrev pub SeatAnswers : Event → Handle → ℕ → Handle → Type 0
SeatAnswers event h number h' = OnSeat h.held (λ old status new. DoesWithStatus old event status new) number h'.held

-- it creates the cache that bytes say, or memory was wanting
abbrev pub SeatCreatesOr : Result NewCache Fault → ℕ → ℕ → Handle → ℕ → Handle → Type 0
SeatCreatesOr said id id' h number h' = OnSeat h.held (λ old status new. CreatesOr old said status id id' new) number h'.held

-- it restores the cache that bytes are, under a name that bytes say, or tells why not
abbrev pub SeatRestores : Result (List ℕ) Fault → List ℕ → ℕ → ℕ → ℕ → ℕ → ℕ → Handle → ℕ → Handle → Type 0
SeatRestores name bytes most id id' place place' h number h' = OnSeat h.held (λ old status new. RestoresTold old name bytes most status id id' place place' new) number h'.held

-- it tells this status, by what it is
abbrev pub SeatTells : (Seated → Status) → Handle → ℕ → Handle → Type 0
SeatTells told h number h' = OnSeat h.held (λ old status new. status ≡ told old) number h'.held

-- and this, by what was shown last of a cache
abbrev pub SeatTellsOf : ℕ → (Option Outcome → Status) → Handle → ℕ → Handle → Type 0
SeatTellsOf id told h number h' = SeatTells (λ old. told (shown_of id old)) h number h'

-- and whether a part of an item of it is there, for which there is so much room
abbrev pub SeatTellsPart : Part → ℕ → ℕ → ℕ → Handle → ℕ → Handle → Type 0
SeatTellsPart part item id room h number h' = SeatTellsOf id (part_status part item room) h number h'

-- and this, by a cache, which may be none
abbrev pub SeatTellsAt : ℕ → (Option Cache → Status) → Handle → ℕ → Handle → Type 0
SeatTellsAt id told h number h' = SeatTells (λ old. told (at_place old.caches id)) h number h'

-- Handles that are opened and closed, and what is seen of them.

-- a manager without caches, with this placer, is made behind a handle without one, unless memory is wanting; a handle
-- with one keeps it
abbrev pub OpensManager : FfiPlacer → Option Seated → ℕ → Option Seated → Type 0
OpensManager placer (Some old) number held = (number ≡ status_number InUse) × (held ≡ Some old)
OpensManager placer None number None = number ≡ status_number OutOfMemory
OpensManager placer None number (Some new) = (number ≡ status_number Done) × (new ≡ fresh_seat placer)

abbrev pub closing : Option Seated → Status
closing None = Closed
closing (Some old) = Done

-- the caches, of which there are none without a manager
abbrev pub caches_held : Option Seated → List (Option Cache)
caches_held None = []
caches_held (Some s) = s.caches

-- what was shown last of a cache
abbrev pub shown_in : ℕ → Option Seated → Option Outcome
shown_in id None = None
shown_in id (Some s) = shown_of id s

-- a part of an item of it
abbrev pub part_shown_in : Part → ℕ → ℕ → Option Seated → Bytes
part_shown_in part item id held = part_shown part item (shown_in id held)

-- a number of it
abbrev pub number_shown_in : ℕ → ℕ → Option Seated → Option ℕ
number_shown_in place id held = number_shown place (shown_in id held)

-- a live cache
abbrev pub cache_held : ℕ → Option Seated → Option Cache
cache_held id held = at_place (caches_held held) id

-- the value that a call found, if this is its status's number
abbrev pub value_found_in : ℕ → ℕ → Option Seated → Bytes
value_found_in id number None = None
value_found_in id number (Some s) = value_found id number s

-- what a live cache was created with
abbrev pub asked_held : ℕ → Option Seated → Option NewCache
asked_held id None = None
asked_held id (Some s) = asked_at id s

-- the live caches by id and name
abbrev pub names_held : Option Seated → Bytes
names_held held = option_map (λ s. names_told s.caches) held
