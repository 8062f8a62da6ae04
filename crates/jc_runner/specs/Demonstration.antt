-- The caches of a run without a configuration.
use Rattle.std.specs.Prelude.{List, [], ◌∷◌, codes}
use Rattle.jc_config.specs.Kinds.{plain_cache}
use Rattle.jc_model.specs.declared.config.CacheConfig.{CacheConfig}
use Rattle.jc_model.specs.declared.config.Policy.TheVariants.{Eternal, Created}

abbrev pub demonstration_caches : List CacheConfig
demonstration_caches = plain_cache (codes "a") 2 Eternal ∷ plain_cache (codes "b") 1 (Created 100) ∷ []
