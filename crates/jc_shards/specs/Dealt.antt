-- Which caches two managers are opened with, and why they do not open.
use Rattle.std.specs.Prelude.{◌≡◌, ℕ, Bool, true, false, List, Some, None, ⊤}
use Rattle.jc_shards.specs.Dealing.{Dealt, of_left, of_right}
use Rattle.jc_engine.specs.Opening.{open_refusal}
use Rattle.jc_model.specs.declared.config.CacheConfig.{CacheConfig}
use Rattle.jc_locked.specs.declared.fault.SharedRefusal.{SharedRefusal}
use Rattle.jc_locked.specs.declared.fault.SharedRefusal.TheVariants.{Caches, HooksDiffer, OutOfMemory}
use Rattle.jc_locked.specs.Opening.{HandedIn}
use Rattle.jc_shards.specs.declared.opening.HalfRefusal.{HalfRefusal}

-- what is wrong with the caches of one manager, if not want of memory
abbrev pub IsRefusal : List CacheConfig → SharedRefusal → Type 0
IsRefusal configs (Caches why) = open_refusal configs ≡ Some why
IsRefusal configs (HooksDiffer cache) = ⊥
IsRefusal configs OutOfMemory = ⊤

-- a manager has these caches, with which one opens, and places rows under this seed
pub record HasOpened {L P : Type 0} (configs : List CacheConfig) (seed : ℕ) (manager : HandedIn L P) : Type 0 where
  pub configs_are : manager.configs ≡ configs
  pub opens : open_refusal configs ≡ None
  pub seed_is : manager.seed ≡ seed

-- the first has the caches of the left half at a level, the second those of the right
pub record AreHalves {L P M Q : Type 0} (dealing : Dealt) (level : ℕ) (configs : List CacheConfig) (seed : ℕ) (left : HandedIn L P) (right : HandedIn M Q) : Type 0 where
  pub left_has : HasOpened (of_left dealing level configs) seed left
  pub right_has : HasOpened (of_right dealing level configs) seed right

-- one of the halves is refused, the right only where nothing is wrong with the left
abbrev pub IsHalfRefusal : Dealt → ℕ → List CacheConfig → HalfRefusal → Type 0
IsHalfRefusal dealing level configs refused = at refused.right refused.refusal where
  at : Bool → SharedRefusal → Type 0
  at false refusal = IsRefusal (of_left dealing level configs) refusal
  at true refusal = (open_refusal (of_left dealing level configs) ≡ None) × IsRefusal (of_right dealing level configs) refusal
