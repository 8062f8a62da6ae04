-- Callbacks that are those which a configuration names.
use Rattle.std.specs.Prelude.{◌≡◌, ℕ, ◌<◌, Bool, is_some, List, length, map, slice_get, Option, Some, None, ⊤}
use Rattle.jc_hooks.specs.declared.cache_hooks.CacheHooks.{CacheHooks}
use Rattle.jc_model.specs.declared.config.CacheConfig.{CacheConfig}

-- loader and writer are there or not, each processor wants the value or not, and the listeners are as many
pub record Suits {L W P K : Type 0} (wants : P → Bool) (c : CacheConfig) (h : CacheHooks L W P K) : Type 0 where
  pub loads : c.loader ≡ is_some h.loader
  pub writes : c.writer ≡ is_some h.writer
  pub processes : c.processors ≡ map wants h.processors.items
  pub listens : c.listeners ≡ length h.listeners.items

module _ {L W P K : Type 0} (wants : P → Bool) where
  abbrev pub SuitAt : Option CacheConfig → Option (CacheHooks L W P K) → Type 0
  SuitAt None None = ⊤
  SuitAt None (Some h) = ⊥
  SuitAt (Some c) None = ⊥
  SuitAt (Some c) (Some h) = Suits wants c h

  -- each cache has the callbacks that its configuration names
  abbrev pub AllSuit : List CacheConfig → List (CacheHooks L W P K) → Type 0
  AllSuit configs hooks = (place : ℕ) → SuitAt (slice_get configs place) (slice_get hooks place)

  -- this is the first place at which they differ, or one of the two is missing
  pub record DifferFirst (configs : List CacheConfig) (hooks : List (CacheHooks L W P K)) (place : ℕ) : Type 0 where
    pub before : (earlier : ℕ) → earlier < place → SuitAt (slice_get configs earlier) (slice_get hooks earlier)
    pub here : SuitAt (slice_get configs place) (slice_get hooks place) → ⊥
