-- What a session is told of caches that are created and destroyed, and of their rows.
use Rattle.std.specs.Prelude.{◌≡◌, ◌<◌, ℕ, Bool, true, false, List, Option, Some, None, IsSome, slice_get, ⊤}
use Rattle.jc_model.specs.declared.config.CacheConfig.{CacheConfig}
use Rattle.jc_model.specs.declared.event.Cause.{Cause}
use Rattle.jc_model.specs.declared.event.Cause.TheVariants as cause
use Rattle.jc_model.specs.declared.event.CreateRefusal.{CreateRefusal}
use Rattle.jc_model.specs.Places.{at_place, named_from}
use Rattle.jc_model.specs.declared.event.Event.{Event}
use Rattle.jc_model.specs.declared.event.Event.TheVariants as event
use Rattle.jc_model.specs.declared.event.Outcome.TheVariants.{Created, Destroyed}
use Rattle.jc_model.specs.Runs.{Status, Lives, create_refusal}
use Rattle.jc_model.specs.Solo.{state_in}
use Rattle.jc_model.specs.Whole.{holds}
use Rattle.jc_model.specs.Legal.{History, IsLegal, Tells, config_of}
use Rattle.jc_engine.specs.Advances.{is_open_in}
use Rattle.jc_engine.specs.Caches.{lives_of}
use Rattle.jc_engine.specs.Recording.{Recording}
use Rattle.jc_rows.specs.Images.{last_image}
use Rattle.jc_index.specs.Stripes.{AreReadAtRest}
use Rattle.jc_index.specs.Found.{found_in_image}
use Rattle.jc_locked.specs.declared.fault.CreateFault.{CreateFault}
use Rattle.jc_locked.specs.declared.fault.CreateFault.TheVariants.{Cache, HooksDiffer, OutOfMemory}
use Rattle.jc_locked.specs.declared.fault.DestroyFault.{DestroyFault}
use Rattle.jc_locked.specs.declared.fault.DestroyFault.TheVariants as destroying
use Rattle.jc_locked.specs.Sessions.{Sight, BeginsWith, Sees, SeesEngine}
use Rattle.jc_locked.specs.Tenures.{IsTenure, IsRefusedEvent}

-- these caches are live, and stand as a legal transcript leaves them, which begins with the caches of the opening
pub record AreTold (configs : List CacheConfig) (transcript : History) (lives : Lives) : Type 0 where
  pub legal : IsLegal transcript
  pub begins : BeginsWith configs transcript
  pub tells : Tells transcript lives

-- so it is of a recorded engine
abbrev pub IsToldOf : List CacheConfig → Recording → Type 0
IsToldOf configs r = AreTold configs r.transcript (lives_of r.caches)

-- the id of the live cache with this name
pub record IsIdOfName (configs : List CacheConfig) (name : List ℕ) (id : Option ℕ) : Type 0 where
  pub transcript : History
  pub lives : Lives
  pub told : AreTold configs transcript lives
  pub named : id ≡ named_from (λ k. k.config.name) name 0 lives

-- a tenure has created a cache with this id and this configuration
pub record IsCreated (configs : List CacheConfig) (id : ℕ) (config : CacheConfig) : Type 0 where
  pub old : Recording
  pub was : IsToldOf configs old
  pub new : Recording
  pub told : IsToldOf configs new
  pub tenure : (session : ℕ) → IsTenure old new session (event.Create config) (Created id)
  pub there : IsSome (at_place (lives_of new.caches) id)

-- what the engine says to a configuration
pub record AnswersConfig (configs : List CacheConfig) (config : CacheConfig) (answer : Option CreateRefusal) : Type 0 where
  pub transcript : History
  pub lives : Lives
  pub told : AreTold configs transcript lives
  pub refusal : create_refusal lives config ≡ answer

-- why no cache is created; whether the callbacks suit its configuration
abbrev pub IsCreateFault : List CacheConfig → CacheConfig → Type 0 → CreateFault → Type 0
IsCreateFault configs config Suits (Cache refusal) = AnswersConfig configs config (Some refusal)
IsCreateFault configs config Suits HooksDiffer = AnswersConfig configs config None × (Suits → ⊥)
IsCreateFault configs config Suits OutOfMemory = AnswersConfig configs config None × Suits

-- why a configuration creates no cache where these are live; whether the callbacks suit it
abbrev pub IsRefusedConfig : Lives → CacheConfig → Bool → CreateFault → Type 0
IsRefusedConfig lives config suited (Cache refusal) = create_refusal lives config ≡ Some refusal
IsRefusedConfig lives config suited HooksDiffer = (create_refusal lives config ≡ None) × (suited ≡ false)
IsRefusedConfig lives config suited OutOfMemory = (create_refusal lives config ≡ None) × (suited ≡ true)

-- a tenure has destroyed a cache, which was live, and where the pass's last meeting succeeded it has seen no row of it
pub record HasGone (configs : List CacheConfig) (id : ℕ) (pass : Sight) : Type 0 where
  pub old : Recording
  pub was : IsToldOf configs old
  pub new : Recording
  pub told : IsToldOf configs new
  pub tenure : (session : ℕ) → IsTenure old new session (event.Destroy id) Destroyed
  pub sees : SeesEngine new pass
  pub lived : IsSome (config_of id new.transcript.lives)
  pub gone : at_place (lives_of new.caches) id ≡ None

-- how a tenure is told that destroys no cache, where these are live
abbrev pub IsRefusedDestroy : Lives → ℕ → DestroyFault → Type 0
IsRefusedDestroy lives id destroying.NoSuchCache = IsRefusedEvent lives (event.Destroy id) cause.NoSuchCache
IsRefusedDestroy lives id destroying.Busy = IsRefusedEvent lives (event.Destroy id) cause.Busy
IsRefusedDestroy lives id destroying.OutOfMemory = ⊥

-- why the engine refuses an event
pub record Refuses (configs : List CacheConfig) (event : Event) (why : Cause) : Type 0 where
  pub transcript : History
  pub lives : Lives
  pub told : AreTold configs transcript lives
  pub refusal : IsRefusedEvent lives event why

-- where a cache is one of the opening, the engine refuses the event since it has no cache of this number
abbrev pub IsMissing : List CacheConfig → ℕ → Event → Type 0
IsMissing configs id event = (c : CacheConfig) → slice_get configs id ≡ Some c → Refuses configs event cause.NoSuchCache

-- why the engine destroys no cache; it takes no memory
abbrev pub IsDestroyFault : List CacheConfig → ℕ → DestroyFault → Type 0
IsDestroyFault configs id destroying.NoSuchCache = Refuses configs (event.Destroy id) cause.NoSuchCache
IsDestroyFault configs id destroying.Busy = Refuses configs (event.Destroy id) cause.Busy
IsDestroyFault configs id destroying.OutOfMemory = ⊥

-- why a session destroys no cache: by the engine, or because the callbacks of a created one are not found or can't be
-- shared
abbrev pub IsSessionDestroyRefusal : List CacheConfig → ℕ → DestroyFault → Type 0
IsSessionDestroyRefusal configs id destroying.NoSuchCache = IsMissing configs id (event.Destroy id)
IsSessionDestroyRefusal configs id destroying.Busy = Refuses configs (event.Destroy id) cause.Busy
IsSessionDestroyRefusal configs id destroying.OutOfMemory = ⊤

-- no call is open
pub record HasNoOpenCall (configs : List CacheConfig) : Type 0 where
  pub recorded : Recording
  pub told : IsToldOf configs recorded
  pub idle : (id : ℕ) → is_open_in (at_place recorded.caches id) ≡ false

-- the cache's call is open, and of no cache with a lesser number
pub record HasOpenCall (configs : List CacheConfig) (id : ℕ) : Type 0 where
  pub recorded : Recording
  pub told : IsToldOf configs recorded
  pub opened : is_open_in (at_place recorded.caches id) ≡ true
  pub first : (earlier : ℕ) → earlier < id → is_open_in (at_place recorded.caches earlier) ≡ false

-- whether a cache that may be live has a live row of this key
abbrev pub has_live_row : ℕ → List ℕ → Option Status → Bool
has_live_row now key None = false
has_live_row now key (Some k) = holds k.config now key (state_in k.standing)

-- whether the cache has one, as a legal transcript leaves it, and these are the caches that the pass sees
pub record TellsLiveRow (configs : List CacheConfig) (id : ℕ) (key : List ℕ) (now : ℕ) (pass : Sight) (b : Bool) : Type 0 where
  pub transcript : History
  pub lives : Lives
  pub told : AreTold configs transcript lives
  pub sees : Sees transcript lives pass
  pub held : b ≡ has_live_row now key (at_place lives id)

-- whether the last image that the pass has seen tells so, in a lookup whose versions stayed
pub record IsSeen (id : ℕ) (key : List ℕ) (now : ℕ) (pass : Sight) (b : Bool) : Type 0 where
  pub met : pass.met ≡ true
  pub stayed : AreReadAtRest pass.begun pass.checked
  pub seen : found_in_image (last_image pass.images) id key now ≡ Some b
