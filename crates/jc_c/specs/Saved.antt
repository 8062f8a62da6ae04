-- Caches that are saved as bytes, and restored from bytes.
use Rattle.std.specs.Prelude.{◌≡◌, ℕ, Bool, false, ◌&&◌, ltb, if◌then◌else◌, ◌⊎◌, List, [], ◌∷◌, ◌++◌, length, option_map, Result, Ok, Err}
use Rattle.std.specs.Prelude.{Option, Some, None}
use Rattle.std.specs.List.{list_any}
use Rattle.jc_model.specs.declared.config.CacheConfig.{CacheConfig}
use Rattle.jc_model.specs.declared.event.CreateRefusal.{CreateRefusal}
use Rattle.jc_model.specs.declared.event.Outcome.TheVariants.{Created}
use Rattle.jc_model.specs.Limits.{value_bytes}
use Rattle.jc_model.specs.Runs.{create_refusal}
use Rattle.jc_model.specs.State.{Item, State}
use Rattle.jc_save.specs.declared.fault.Flaw.{Flaw}
use Rattle.jc_save.specs.declared.fault.Flaw.TheVariants as flaw
use Rattle.jc_save.specs.declared.fault.SaveFault.{SaveFault}
use Rattle.jc_save.specs.declared.fault.SaveFault.TheVariants as fault
use Rattle.jc_save.specs.Restoring.{restored}
use Rattle.jc_save.specs.Spelling.{saved}
use Rattle.jc_engine.specs.Caches.{Cache, lives_of}
use Rattle.jc_engine.specs.Saving.{AddsSaved}
use Rattle.jc_engine.specs.declared.restoring.RestoreRefusal.{RestoreRefusal}
use Rattle.jc_engine.specs.declared.restoring.RestoreRefusal.TheVariants.{Damaged, NotCreated}
use Rattle.jc_c.specs.declared.saved.RestoreAs.{RestoreAs}
use Rattle.jc_c.specs.declared.saved.Unrestored.{Unrestored}
use Rattle.jc_c.specs.declared.status.Fault.{Fault}
use Rattle.jc_c.specs.declared.status.Status.{Status}
use Rattle.jc_c.specs.declared.status.Status.TheVariants.{BadSave, BadValue, Busy, Done, NoSuchCache, OtherVersion, OutOfMemory}
use Rattle.jc_c.specs.Items.{Bytes, copy_status}
use Rattle.jc_c.specs.Parts.{or_before}
use Rattle.jc_c.specs.Seated.{Seated}
use Rattle.jc_c.specs.Status.{fault_status, refusal_status}

-- What is saved of a cache that may be none.

abbrev pub saved_told : Option Cache → Bytes
saved_told None = None
saved_told (Some k) = elim k.turn [ None ↦ Some (saved k.config k.progress.state) | Some w ↦ None ]

abbrev pub save_status : Option Cache → ℕ → Status
save_status None room = NoSuchCache
save_status (Some k) room = elim k.turn [ None ↦ copy_status (Some (saved k.config k.progress.state)) room | Some w ↦ Busy ]

-- Why no cache is restored.

abbrev pub because : Status → Unrestored
because status = record { status = status; place = None }

abbrev pub flaw_status : Flaw → Status
flaw_status flaw.OtherVersion = OtherVersion
flaw_status _ = BadSave

abbrev pub for_fault : SaveFault → Unrestored
for_fault (fault.Damaged what place) = record { status = flaw_status what; place = Some place }
for_fault fault.OutOfMemory = because OutOfMemory

abbrev pub for_refusal : RestoreRefusal → Unrestored
for_refusal (Damaged what place) = record { status = flaw_status what; place = Some place }
for_refusal (NotCreated refusal) = because (refusal_status refusal)

-- whether a value has more bytes than this; none has more than 65,535
abbrev pub has_longer : ℕ → State → Bool
has_longer most s = ltb most value_bytes && list_any (λ (x : Item). ltb most (length x.value)) s.ring

-- by what was read of the bytes, where values have at most so many
abbrev pub read_refusal : ℕ → Result (CacheConfig × State) SaveFault → Option Unrestored
read_refusal most (Err e) = Some (for_fault e)
read_refusal most (Ok read) = if has_longer most read.1 then Some (because BadValue) else None

-- by the caches that are there
abbrev pub add_refusal : List (Option Cache) → Result (CacheConfig × State) SaveFault → Option Unrestored
add_refusal caches (Err e) = None
add_refusal caches (Ok read) = option_map (λ (r : CreateRefusal). because (refusal_status r)) (create_refusal (lives_of caches) read.0)

abbrev pub or_then : Option Unrestored → Option Unrestored → Option Unrestored
or_then None next = next
or_then (Some why) next = Some why

-- under a name that bytes say, where memory suffices
abbrev pub unrestored : List (Option Cache) → Result (List ℕ) Fault → List ℕ → ℕ → Option Unrestored
unrestored caches (Err e) bytes most = Some (because (fault_status e))
unrestored caches (Ok name) bytes most = or_then (read_refusal most (restored name bytes)) (add_refusal caches (restored name bytes))

-- A cache that is restored.

-- one more, which is what the bytes are, with a desk that shows that it was created; its values have at most so many bytes
pub record AddsRestored (old : Seated) (name bytes : List ℕ) (most id : ℕ) (new : Seated) : Type 0 where
  pub id_is : id ≡ length old.caches
  pub caches : AddsSaved name bytes old.caches new.caches
  pub desks : new.desks ≡ old.desks ++ Some (record { shown = Created id; max_value = most }) ∷ []
  pub placer : new.placer ≡ old.placer

abbrev pub AddsNamed : Seated → Result (List ℕ) Fault → List ℕ → ℕ → ℕ → Seated → Type 0
AddsNamed old (Err e) bytes most id new = ⊥
AddsNamed old (Ok name) bytes most id new = AddsRestored old name bytes most id new

-- why it is refused: a name that bytes do not say is told first; else memory may be wanting before what is due is found
abbrev pub IsRefusedAs : Result (List ℕ) Fault → Option Unrestored → Unrestored → Type 0
IsRefusedAs (Err e) due why = due ≡ Some why
IsRefusedAs (Ok name) due why = (why ≡ because OutOfMemory) ⊎ (due ≡ Some why)

-- no refusal is due, and it is there; or it is refused, and all is as it was
abbrev pub Restores : Seated → Result (List ℕ) Fault → List ℕ → ℕ → Result ℕ Unrestored → Seated → Type 0
Restores old name bytes most (Ok id) new = (unrestored old.caches name bytes most ≡ None) × AddsNamed old name bytes most id new
Restores old name bytes most (Err why) new = IsRefusedAs name (unrestored old.caches name bytes most) why × (new ≡ old)

-- What is told of it.

abbrev pub restored_status : Result ℕ Unrestored → Status
restored_status (Ok id) = Done
restored_status (Err why) = why.status

abbrev pub restored_id : Result ℕ Unrestored → Option ℕ
restored_id (Ok id) = Some id
restored_id (Err why) = None

abbrev pub restored_place : Result ℕ Unrestored → Option ℕ
restored_place (Ok id) = None
restored_place (Err why) = why.place

pub record RestoresTold (old : Seated) (name : Result (List ℕ) Fault) (bytes : List ℕ) (most : ℕ) (status : Status) (id id' place place' : ℕ) (new : Seated) : Type 0 where
  pub result : Result ℕ Unrestored
  pub does : Restores old name bytes most result new
  pub status_is : status ≡ restored_status result
  pub id_is : id' ≡ or_before id (restored_id result)
  pub place_is : place' ≡ or_before place (restored_place result)

-- What is read before the manager is asked: a name, and that no value is longer; or why not.

abbrev pub LacksLonger : ℕ → Result (CacheConfig × State) SaveFault → Type 0
LacksLonger most (Err e) = Unit {0}
LacksLonger most (Ok read) = has_longer most read.1 ≡ false

abbrev pub IsReadRefusal : ℕ → Result (CacheConfig × State) SaveFault → Unrestored → Type 0
IsReadRefusal most read why = (why ≡ because OutOfMemory) ⊎ (read_refusal most read ≡ Some why)

abbrev pub IsSavedRefused : Result (List ℕ) Fault → List ℕ → ℕ → Unrestored → Type 0
IsSavedRefused (Err e) bytes most why = why ≡ because (fault_status e)
IsSavedRefused (Ok name) bytes most why = IsReadRefusal most (restored name bytes) why

abbrev pub IsSavedRead : Result (List ℕ) Fault → List ℕ → ℕ → Result RestoreAs Unrestored → Type 0
IsSavedRead name bytes most (Ok asked) = (name ≡ Ok asked.name) × (asked.max_value ≡ most) × LacksLonger most (restored asked.name bytes)
IsSavedRead name bytes most (Err why) = IsSavedRefused name bytes most why
