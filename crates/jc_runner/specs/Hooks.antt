-- Callbacks that are those which the configurations name.
use Rattle.std.specs.Prelude.{◌≡◌, ◌⊎◌, Bool, Option, None, IsSome, List, [], map}
use Rattle.jc_hooks.specs.Suits.{AllSuit}
use Rattle.jc_hooks.specs.declared.cache_hooks.CacheHooks.{CacheHooks}
use Rattle.jc_model.specs.declared.config.CacheConfig.{CacheConfig}
use Rattle.jc_engine.specs.Opening.{open_refusal}

-- a cache that has none
pub record HasNoHooks {L W P K : Type 0} (h : CacheHooks L W P K) : Type 0 where
  pub loader : h.loader ≡ None
  pub writer : h.writer ≡ None
  pub processors : h.processors.items ≡ []
  pub listeners : h.listeners.items ≡ []

-- the loader and the processors
abbrev pub asked_of : {L W P K : Type 0} → CacheHooks L W P K → Option L × List P
asked_of h = (h.loader, h.processors.items)

-- each cache has those that it had
abbrev pub AreKept : {L W P K : Type 0} → List (CacheHooks L W P K) → List (CacheHooks L W P K) → Type 0
AreKept old new = map asked_of new ≡ map asked_of old

module _ {L W P K : Type 0} (wants : P → Bool) where
  -- each cache has the callbacks that its configuration names: one fact, which a search does not take apart
  unfoldable pub AreSuited : List CacheConfig → List (CacheHooks L W P K) → Type 0
  AreSuited caches hooks = AllSuit wants caches hooks

  -- the callbacks differ, or the manager refuses the caches
  abbrev pub CannotOpen : List CacheConfig → List (CacheHooks L W P K) → Type 0
  CannotOpen caches hooks = (AreSuited caches hooks → ⊥) ⊎ IsSome (open_refusal caches)
