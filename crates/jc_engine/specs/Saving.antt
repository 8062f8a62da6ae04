-- Caches that are saved as bytes, and come from them.
use Rattle.std.specs.Prelude.{◌≡◌, ℕ, List, [], ◌∷◌, ◌++◌, length, Option, Some, None, option_map, Result, Ok, Err}
use Rattle.jc_model.specs.declared.config.CacheConfig.{CacheConfig}
use Rattle.jc_model.specs.declared.event.Cause.{Cause}
use Rattle.jc_model.specs.declared.event.Cause.TheVariants.{NoSuchCache, Busy}
use Rattle.jc_model.specs.declared.event.CreateRefusal.TheVariants.{OutOfMemory}
use Rattle.jc_model.specs.Changes.{begun}
use Rattle.jc_model.specs.Runs.{create_refusal}
use Rattle.jc_model.specs.State.{State}
use Rattle.jc_save.specs.declared.cache.SavedCache.{SavedCache}
use Rattle.jc_save.specs.declared.fault.SaveFault.{SaveFault}
use Rattle.jc_save.specs.declared.fault.SaveFault.TheVariants as fault
use Rattle.jc_save.specs.Restoring.{restored, state_of}
use Rattle.jc_save.specs.Savable.{IsSavable, IsRestored}
use Rattle.jc_save.specs.Spelling.{saved}
use Rattle.jc_engine.specs.declared.restoring.RestoreRefusal.{RestoreRefusal}
use Rattle.jc_engine.specs.declared.restoring.RestoreRefusal.TheVariants.{Damaged, NotCreated}
use Rattle.jc_engine.specs.Caches.{Cache, lives_of}

-- how many bytes a cache is saved as, or why it is not
abbrev pub saved_length : Option Cache → Result ℕ Cause
saved_length None = Err NoSuchCache
saved_length (Some k) = elim k.turn [ None ↦ Ok (length (saved k.config k.progress.state)) | Some w ↦ Err Busy ]

-- the bytes
abbrev pub saved_in : Option Cache → List ℕ
saved_in None = []
saved_in (Some k) = saved k.config k.progress.state

abbrev pub IsSavableIn : Option Cache → Type 0
IsSavableIn None = Unit {0}
IsSavableIn (Some k) = IsSavable k.config k.progress.state

-- a cache with no open call
abbrev pub idle_cache : CacheConfig → State → List ℕ → Cache
idle_cache c s numbers = record { config = c; progress = begun s; turn = None; numbers = numbers }

abbrev pub refusal_for_fault : SaveFault → RestoreRefusal
refusal_for_fault (fault.Damaged flaw place) = Damaged flaw place
refusal_for_fault fault.OutOfMemory = NotCreated OutOfMemory

-- why what was read is not added beside these caches, where memory suffices
abbrev pub refusal_of_read : List (Option Cache) → Result (CacheConfig × State) SaveFault → Option RestoreRefusal
refusal_of_read caches (Err e) = Some (refusal_for_fault e)
refusal_of_read caches (Ok read) = option_map NotCreated (create_refusal (lives_of caches) read.0)

abbrev pub restore_refusal : List (Option Cache) → List ℕ → List ℕ → Option RestoreRefusal
restore_refusal caches name bytes = refusal_of_read caches (restored name bytes)

-- it is the refusal that is due, if one is, or for want of memory
abbrev pub IsRestoreRefusal : Option RestoreRefusal → RestoreRefusal → Type 0
IsRestoreRefusal due (NotCreated OutOfMemory) = Unit {0}
IsRestoreRefusal due refusal = due ≡ Some refusal

abbrev pub IsRestoreAnswer : List (Option Cache) → List ℕ → List ℕ → Result ℕ RestoreRefusal → Type 0
IsRestoreAnswer caches name bytes (Ok id) = (restore_refusal caches name bytes ≡ None) × (id ≡ length caches)
IsRestoreAnswer caches name bytes (Err refusal) = IsRestoreRefusal (restore_refusal caches name bytes) refusal

-- a cache more, which is what these bytes are
pub record AddsSaved (name bytes : List ℕ) (old new : List (Option Cache)) : Type 0 where
  pub config : CacheConfig
  pub state : State
  pub numbers : List ℕ
  pub is_saved : IsRestored name bytes config state
  pub added : new ≡ old ++ Some (idle_cache config state numbers) ∷ []

-- a cache more, as it was saved
pub record AddsLike (saved : SavedCache) (old new : List (Option Cache)) : Type 0 where
  pub numbers : List ℕ
  pub added : new ≡ old ++ Some (idle_cache saved.config (state_of saved) numbers) ∷ []
