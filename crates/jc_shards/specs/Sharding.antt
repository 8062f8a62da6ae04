-- What a session of one manager promises, as one fact for each of its methods.
use Rattle.std.specs.Prelude.{◌≡◌, ◌⊎◌, ◌≢◌, suc, ℕ, Bool, true, false, List, Option, None, Some, Result, IfOk, IfErr, OnOk, OnErr}
use Rattle.std.specs.declared.alloc.AllocError.{AllocError}
use mathlib.Core.List.{IsPrefix}
use Rattle.jc_model.specs.declared.call.Call.{Call}
use Rattle.jc_model.specs.declared.call.Reply.{Reply}
use Rattle.jc_model.specs.declared.config.CacheConfig.{CacheConfig}
use Rattle.jc_model.specs.declared.event.End.TheVariants.{Replied}
use Rattle.jc_hooks.specs.declared.cache_hooks.CacheHooks.{CacheHooks}
use Rattle.jc_hooks.specs.declared.no_hooks.NoHooks.{NoHooks}
use Rattle.jc_hooks.specs.Suits.{Suits}
use Rattle.jc_place.specs.Seeded.{seeded_place}
use Rattle.jc_rows.specs.Images.{last_image}
use Rattle.jc_index.specs.Stripes.{SomeOdd, AreReadAtRest, stripes_in}
use Rattle.jc_index.specs.declared.lookup.Lookup.{Lookup}
use Rattle.jc_index.specs.declared.lookup.Lookup.TheVariants.{Sure, Unsure}
use Rattle.jc_index.specs.Found.{found_in_image}
use Rattle.jc_index.specs.Spelling.{buckets_of}
use Rattle.jc_index.specs.Versions.{read_for}
use Rattle.jc_locked.specs.declared.fault.CallFault.{CallFault}
use Rattle.jc_locked.specs.declared.fault.CreateFault.{CreateFault}
use Rattle.jc_locked.specs.declared.fault.DestroyFault.{DestroyFault}
use Rattle.jc_locked.specs.Calls.{Adds, CallFails, LacksProcessor, TellsLack}
use Rattle.jc_locked.specs.Living.{HasGone, IsCreated, IsCreateFault, IsSessionDestroyRefusal, TellsLiveRow, IsIdOfName, IsSeen}
use Rattle.jc_locked.specs.Sessions.{Sitting, SeesSome, log_of}
use Rattle.jc_locked.specs.Stated.{Stated}
use Rattle.jc_engine.specs.Recording.{blank}
use Rattle.jc_shared.specs.Progress.{AddsCall, FailsBy}

pub record IsCall (configs : List CacheConfig) (stated : List Stated) (old new : Sitting) (id now : ℕ) (call : Call) (result : Result Reply CallFault) : Type 0 where
  pub number : new.number ≡ old.number
  pub ok : IfOk result (λ reply. Adds configs stated old new id now call (Replied reply))
  pub refused : LacksProcessor configs id call → TellsLack result × (new ≡ old)
  pub err : IfErr result (λ fault. CallFails configs stated old new id now call fault)
  pub front : IsPrefix old.pass.images new.pass.images

-- of a call whose requests are answered by what is lent to it
pub record IsCallBy (configs : List CacheConfig) (old new : Sitting) (id now : ℕ) (call : Call) (result : Result Reply CallFault) : Type 0 where
  pub number : new.number ≡ old.number
  pub ok : IfOk result (λ reply. AddsCall configs old new (blank old.number id now call) (Replied reply))
  pub err : IfErr result (λ fault. FailsBy configs old new id now call fault)
  pub front : IsPrefix old.pass.images new.pass.images

pub record IsLookup (old new : Sitting) (id : ℕ) (key : List ℕ) (now : ℕ) (result : Lookup) : Type 0 where
  pub sure : (b : Bool) → result ≡ Sure b → found_in_image (last_image new.pass.images) id key now ≡ Some b
  pub stays : (b : Bool) → result ≡ Sure b → AreReadAtRest new.pass.begun new.pass.checked
  pub unmet : old.pass.met ≡ false → (result ≡ Unsure) × (new.pass ≡ old.pass)
  pub unsure : result ≡ Unsure → (old.pass.met ≡ false) ⊎ ((SomeOdd new.pass.begun ⊎ (new.pass.begun ≢ new.pass.checked)) ⊎ (found_in_image (last_image new.pass.images) id key now ≡ None))
  pub stripes : old.pass.met ≡ true → (stripes_in new.pass.begun ≡ read_for (buckets_of (seeded_place old.pass.placer) old.pass.buckets (id, key))) × (stripes_in new.pass.checked ≡ stripes_in new.pass.begun)
  pub counted : old.pass.met ≡ true → new.pass.lookups ≡ suc old.pass.lookups
  pub front : IsPrefix old.pass.images new.pass.images
  pub met : new.pass.met ≡ old.pass.met
  pub same : log_of new ≡ log_of old

pub record IsLook (configs : List CacheConfig) (old new : Sitting) (id : ℕ) (key : List ℕ) (now : ℕ) (result : Bool) : Type 0 where
  pub told : IsSeen id key now new.pass result ⊎ TellsLiveRow configs id key now new.pass result
  pub unmet : old.pass.met ≡ false → TellsLiveRow configs id key now new.pass result
  pub agrees : new.pass.met ≡ true → (b : Bool) → found_in_image (last_image new.pass.images) id key now ≡ Some b → result ≡ b
  pub front : IsPrefix old.pass.images new.pass.images
  pub same : log_of new ≡ log_of old

pub record IsRefresh (configs : List CacheConfig) (old new : Sitting) (result : Result (Unit {0}) AllocError) : Type 0 where
  pub sees : SeesSome configs new.pass
  pub met : OnOk result (new.pass.met ≡ true)
  pub refused : OnErr result (new.pass.met ≡ false)
  pub front : IsPrefix old.pass.images new.pass.images
  pub same : log_of new ≡ log_of old

-- callbacks that nobody asks
abbrev pub Hooks : Type 0
Hooks = CacheHooks NoHooks NoHooks NoHooks NoHooks

abbrev pub wants : NoHooks → Bool
wants u = u.wants

abbrev pub IsFoundByName : List CacheConfig → List ℕ → Option ℕ → Type 0
IsFoundByName configs name id = IsIdOfName configs name id

pub record IsCreation (configs : List CacheConfig) (config : CacheConfig) (hooks : Hooks) (result : Result ℕ (CreateFault × CacheConfig × Hooks)) : Type 0 where
  pub created : IfOk result (λ id. IsCreated configs id config)
  pub suits : OnOk result (Suits wants config hooks)
  pub refused : IfErr result (λ e. IsCreateFault configs config (Suits wants config hooks) e.0)
  pub back : IfErr result (λ e. (e.1 ≡ config) × (e.2 ≡ hooks))

pub record IsDestruction (configs : List CacheConfig) (old new : Sitting) (id : ℕ) (result : Result (Unit {0}) DestroyFault) : Type 0 where
  pub gone : OnOk result (HasGone configs id new.pass)
  pub fault : IfErr result (λ fault. IsSessionDestroyRefusal configs id fault)
  pub refused : OnErr result (new ≡ old)
  pub front : IsPrefix old.pass.images new.pass.images
  pub same : log_of new ≡ log_of old
