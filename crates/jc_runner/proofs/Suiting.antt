-- Callbacks that are suited, cache by cache.
use Rattle.std.proofs.Common.{Bool, List}
use Rattle.jc_hooks.specs.declared.cache_hooks.CacheHooks.{CacheHooks}
use Rattle.jc_hooks.specs.Suits.{AllSuit}
use Rattle.jc_model.specs.declared.config.CacheConfig.{CacheConfig}
use Rattle.jc_runner.specs.Hooks.{AreSuited}

module _ {L W P K : Type 0} (wants : P → Bool) where
  pub suited : (caches : List CacheConfig) (hooks : List (CacheHooks L W P K)) → AllSuit wants caches hooks → AreSuited wants caches hooks
  unfolding AreSuited
  suited caches hooks s = s

  pub each_suits : (caches : List CacheConfig) (hooks : List (CacheHooks L W P K)) → AreSuited wants caches hooks → AllSuit wants caches hooks
  unfolding AreSuited
  each_suits caches hooks s = s
