-- A manager with the desks of its caches, and what it does at an event.
use Rattle.std.specs.Prelude.{◌≡◌, ℕ, Bool, true, false, is_some, option_map, if◌then◌else◌, ◌⊎◌, Result, Ok, Err, List, [], ◌∷◌, ◌++◌, slice_set, length}
use Rattle.std.specs.Prelude.{Option, Some, None}
use Rattle.jc_model.specs.declared.call.Answer.{Answer as SomeAnswer}
use Rattle.jc_model.specs.declared.call.Call.{Call}
use Rattle.jc_model.specs.declared.event.Event.{Event}
use Rattle.jc_model.specs.declared.event.Event.TheVariants.{Begin, Answer, GiveUp, Create, Destroy}
use Rattle.jc_model.specs.declared.event.Outcome.{Outcome}
use Rattle.jc_model.specs.declared.event.Outcome.TheVariants.{Created}
use Rattle.jc_model.specs.Places.{at_place}
use Rattle.jc_model.specs.Runs.{answer_to, lives_after, for_memory, is_refused}
use Rattle.jc_engine.specs.Caches.{Cache, lives_of}
use Rattle.jc_engine.specs.Free.{takes_none}
use Rattle.jc_engine.specs.Sound.{places_of}
use Rattle.jc_c.specs.declared.desks.Desk.{Desk}
use Rattle.jc_c.specs.declared.ffi_settings.NewCache.{NewCache}
use Rattle.jc_c.specs.declared.placer.FfiPlacer.{FfiPlacer}
use Rattle.jc_c.specs.declared.status.Fault.{Fault}
use Rattle.jc_c.specs.declared.status.Status.{Status}
use Rattle.jc_c.specs.declared.status.Status.TheVariants.{OutOfMemory}
use Rattle.jc_c.specs.Desks.{asks_at, if_taken, showing, values_of_answer, values_of_call}
use Rattle.jc_c.specs.Status.{fault_status, outcome_status}

-- by id, the live caches as the engine has them, and their desks; and where keys have their rows
pub record Seated : Type 0 where
  pub caches : List (Option Cache)
  pub desks : List (Option Desk)
  pub placer : FfiPlacer

-- what is seen of the fields
abbrev pub seated_of : List (Option Cache) → (ℕ → Option Desk) → FfiPlacer → Seated
seated_of caches f placer = record { caches = caches; desks = places_of f (length caches); placer = placer }

-- without caches
abbrev pub fresh_seat : FfiPlacer → Seated
fresh_seat placer = record { caches = []; desks = []; placer = placer }

-- a cache's desk
abbrev pub desk_of : ℕ → Seated → Option Desk
desk_of id s = at_place s.desks id

-- what was shown last of a cache
abbrev pub shown_of : ℕ → Seated → Option Outcome
shown_of id s = option_map (λ d. d.shown) (desk_of id s)

-- whether a call is open on a cache that may be none
abbrev pub open_at : Option Cache → Option Bool
open_at cache = option_map (λ k. is_some k.turn) cache

-- a cache has a desk exactly where it is live, which shows a request exactly while a call is open
abbrev pub HaveDesks : List (Option Cache) → (ℕ → Option Desk) → Type 0
HaveDesks caches f = (id : ℕ) → asks_at (f id) ≡ open_at (at_place caches id)

abbrev pub showing_at : ℕ → Outcome → List (Option Desk) → List (Option Desk)
showing_at id outcome desks = slice_set desks id (showing outcome (at_place desks id))

-- the desks after an event that was not refused; a value of a cache that is created has at most so many bytes
abbrev pub desks_with : ℕ → List (Option Desk) → Event → Outcome → List (Option Desk)
desks_with most desks (Begin id now call) outcome = showing_at id outcome desks
desks_with most desks (Answer id answer) outcome = showing_at id outcome desks
desks_with most desks (GiveUp id) outcome = showing_at id outcome desks
desks_with most desks (Create config) outcome = desks ++ Some (record { shown = outcome; max_value = most }) ∷ []
desks_with most desks (Destroy id) outcome = slice_set desks id None

abbrev pub desks_after : ℕ → List (Option Desk) → Event → Outcome → List (Option Desk)
desks_after most desks event outcome = if is_refused outcome then desks else desks_with most desks event outcome

-- The outcome is the engine's, and so are the lives after it; what takes no memory is not refused for want of it; it is
-- shown at its cache's desk, and a value of a cache that is created has at most so many bytes; places stay by the same
-- placer; what is refused leaves all as it was.
pub record DoesWith (most : ℕ) (old : Seated) (event : Event) (outcome : Outcome) (new : Seated) : Type 0 where
  pub outcome_is : outcome ≡ answer_to (lives_of old.caches) event (for_memory outcome)
  pub lives : lives_of new.caches ≡ lives_after (lives_of old.caches) event outcome
  pub free : takes_none event ≡ true → outcome ≡ answer_to (lives_of old.caches) event false
  pub shows : new.desks ≡ desks_after most old.desks event outcome
  pub placer_is : new.placer ≡ old.placer
  pub refused : is_refused outcome ≡ true → new ≡ old

-- what creates no cache
abbrev pub Does : Seated → Event → Outcome → Seated → Type 0
Does old event outcome new = DoesWith 0 old event outcome new

-- and the status is its outcome's
pub record DoesWithStatus (old : Seated) (event : Event) (status : Status) (new : Seated) : Type 0 where
  pub outcome : Outcome
  pub does : Does old event outcome new
  pub status_is : status ≡ outcome_status outcome

-- what bytes say was asked; where they say nothing, that is told and nothing is done
abbrev pub DoesIfSaid : {A : Type 0} → Seated → (A → Event) → Result A Fault → Status → Seated → Type 0
DoesIfSaid old event (Ok said) status new = DoesWithStatus old (event said) status new
DoesIfSaid old event (Err fault) status new = (status ≡ fault_status fault) × (new ≡ old)

-- the same, or memory was wanting before the manager was asked
abbrev pub DoesIfSaidOr : {A : Type 0} → Seated → (A → Event) → Result A Fault → Status → Seated → Type 0
DoesIfSaidOr old event said status new = DoesIfSaid old event said status new ⊎ ((status ≡ OutOfMemory) × (new ≡ old))

-- a cache begins the call that bytes say, if its values are taken at the cache's desk
abbrev pub BeginsCall : Seated → ℕ → ℕ → Result Call Fault → Status → Seated → Type 0
BeginsCall old id now said status new = DoesIfSaid old (λ call. Begin id now call) (if_taken (desk_of id old) values_of_call said) status new

abbrev pub BeginsCallOr : Seated → ℕ → ℕ → Result Call Fault → Status → Seated → Type 0
BeginsCallOr old id now said status new = DoesIfSaidOr old (λ call. Begin id now call) (if_taken (desk_of id old) values_of_call said) status new

-- its open call gets the answer that bytes say, if its value is taken
abbrev pub ResumesCall : Seated → ℕ → Result SomeAnswer Fault → Status → Seated → Type 0
ResumesCall old id said status new = DoesIfSaid old (λ answer. Answer id answer) (if_taken (desk_of id old) values_of_answer said) status new

abbrev pub ResumesCallOr : Seated → ℕ → Result SomeAnswer Fault → Status → Seated → Type 0
ResumesCallOr old id said status new = DoesIfSaidOr old (λ answer. Answer id answer) (if_taken (desk_of id old) values_of_answer said) status new

-- a cache was created with this id, or the id stays as it was
abbrev pub id_given : Outcome → ℕ → ℕ
id_given (Created id) before = id
id_given _ before = before

pub record CreatesBy (old : Seated) (asked : NewCache) (status : Status) (id id' : ℕ) (new : Seated) : Type 0 where
  pub outcome : Outcome
  pub does : DoesWith asked.max_value old (Create asked.config) outcome new
  pub status_is : status ≡ outcome_status outcome
  pub id_is : id' ≡ id_given outcome id

-- a cache that bytes say was created, or is refused; where they say none, that is told; memory may be wanting before the
-- manager is asked
abbrev pub Creates : Seated → Result NewCache Fault → Status → ℕ → ℕ → Seated → Type 0
Creates old (Ok asked) status id id' new = CreatesBy old asked status id id' new ⊎ ((status ≡ OutOfMemory) × (id' ≡ id) × (new ≡ old))
Creates old (Err fault) status id id' new = (status ≡ fault_status fault) × (id' ≡ id) × (new ≡ old)

-- what was read of these bytes, or memory was wanting
abbrev pub CreatesOr : Seated → Result NewCache Fault → Status → ℕ → ℕ → Seated → Type 0
CreatesOr old what status id id' new = Creates old what status id id' new ⊎ ((status ≡ OutOfMemory) × (id' ≡ id) × (new ≡ old))
