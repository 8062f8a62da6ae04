-- A configuration with which a manager opens, and whose callbacks are those that its caches are to have.
use Rattle.std.specs.Prelude.{◌≡◌, List, [], ◌∷◌, None, is_some, map, ⊤}
use Rattle.jc_config.specs.Kinds.{wants_value_of}
use Rattle.jc_config.specs.declared.kinds.Configuration.{Configuration}
use Rattle.jc_config.specs.declared.kinds.HookKinds.{HookKinds}
use Rattle.jc_engine.specs.Opening.{open_refusal}
use Rattle.jc_model.specs.declared.config.CacheConfig.{CacheConfig}

pub record HasKinds (c : CacheConfig) (k : HookKinds) : Type 0 where
  pub loads : c.loader ≡ is_some k.loader
  pub writes : c.writer ≡ is_some k.writer
  pub processes : c.processors ≡ map wants_value_of k.processors

abbrev pub AllHaveKinds : List CacheConfig → List HookKinds → Type 0
AllHaveKinds [] [] = ⊤
AllHaveKinds (c ∷ caches) (k ∷ kinds) = HasKinds c k × AllHaveKinds caches kinds
AllHaveKinds _ _ = ⊥

pub record CanOpenConfiguration (c : Configuration) : Type 0 where
  pub kinds : AllHaveKinds c.settings c.hooks
  pub refuses_nothing : open_refusal c.settings ≡ None
