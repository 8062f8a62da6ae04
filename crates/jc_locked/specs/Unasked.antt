-- Calls that make no request.
use Rattle.std.specs.Prelude.{◌≡◌, ℕ, false, List, slice_get, Some}
use Rattle.jc_model.specs.declared.config.CacheConfig.{CacheConfig}
use Rattle.jc_locked.specs.Stated.{has_lock}

-- the cache is one of the opening, and its configuration names no callbacks
pub record HasNoCallbacks (configs : List CacheConfig) (id : ℕ) : Type 0 where
  pub config : CacheConfig
  pub there : slice_get configs id ≡ Some config
  pub none : has_lock config ≡ false
