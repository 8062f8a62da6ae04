-- Which caches have a spelling: those that keep all limits.
use Rattle.std.specs.Prelude.{◌≡◌, ℕ, ◌<◌, ◌≤◌, ◌^◌, List, length, get_or, None}
use Rattle.std.specs.List.{AllByRecursion}
use Rattle.std.specs.Str.{IsUtf8}
use Rattle.jc_model.specs.declared.call.Counts.{Counts}
use Rattle.jc_model.specs.declared.config.CacheConfig.{CacheConfig}
use Rattle.jc_model.specs.declared.config.Expiry.{Expiry}
use Rattle.jc_model.specs.declared.config.Expiry.TheVariants.{Never, At}
use Rattle.jc_model.specs.declared.config.Policy.{Policy}
use Rattle.jc_model.specs.declared.config.Policy.TheVariants.{Eternal, Created, Accessed, Modified, Touched}
use Rattle.jc_model.specs.Limits.{key_bytes, value_bytes}
use Rattle.jc_model.specs.Refusals.{broken_limit}
use Rattle.jc_model.specs.Sound.{IsSound}
use Rattle.jc_model.specs.State.{Item, State}
use Rattle.jc_save.specs.Limits.{saved_bytes}
use Rattle.jc_save.specs.Spelling.{saved}

abbrev pub AreBytes : List ℕ → Type 0
AreBytes bytes = (i : ℕ) → get_or bytes i 0 < 256

abbrev pub IsWord : ℕ → Type 0
IsWord n = n < 2 ^ 64

abbrev pub HasDuration : Policy → Type 0
HasDuration Eternal = Unit {0}
HasDuration (Created d) = IsWord d
HasDuration (Accessed d) = IsWord d
HasDuration (Modified d) = IsWord d
HasDuration (Touched d) = IsWord d

abbrev pub HasMoment : Expiry → Type 0
HasMoment Never = Unit {0}
HasMoment (At m) = IsWord m

abbrev pub IsKeyText : List ℕ → Type 0
IsKeyText text = (1 ≤ length text) × (length text ≤ key_bytes) × IsUtf8 text

pub record IsRow (x : Item) : Type 0 where
  pub key : IsKeyText x.key
  pub value : length x.value ≤ value_bytes
  pub moment : HasMoment x.expiry

pub record AreCounters (n : Counts) : Type 0 where
  pub hits : IsWord n.hits
  pub misses : IsWord n.misses
  pub puts : IsWord n.puts
  pub removals : IsWord n.removals
  pub evictions : IsWord n.evictions

pub record IsSavable (c : CacheConfig) (s : State) : Type 0 where
  pub limits : broken_limit c ≡ None
  pub duration : HasDuration c.policy
  pub counters : AreCounters s.counts
  pub rows : AllByRecursion IsRow s.ring
  pub sound : IsSound c s
  pub short : length (saved c s) ≤ saved_bytes

-- a cache of this name that these bytes are
pub record IsRestored (name bytes : List ℕ) (c : CacheConfig) (s : State) : Type 0 where
  pub spelled : bytes ≡ saved c s
  pub named : c.name ≡ name
  pub savable : IsSavable c s
