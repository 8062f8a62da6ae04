-- With which configurations and callbacks a manager opens.
use Rattle.std.specs.Prelude.{◌≡◌, ℕ, Bool, List, [], ◌∷◌, replicate, Option, Some, None}
use Rattle.atomic_table.specs.Seated.{TableId}
use Rattle.jc_cuckoo.specs.declared.held.Held.{Held}
use Rattle.jc_cuckoo.specs.Images.{image_of}
use Rattle.jc_index.specs.Indexes.{Index}
use Rattle.jc_hooks.specs.Suits.{AllSuit, DifferFirst}
use Rattle.jc_hooks.specs.declared.cache_hooks.CacheHooks.{CacheHooks}
use Rattle.jc_model.specs.declared.config.CacheConfig.{CacheConfig}
use Rattle.jc_model.specs.Runs.{opened_from}
use Rattle.jc_model.specs.Legal.{at_first}
use Rattle.jc_engine.specs.Caches.{lives_of}
use Rattle.jc_engine.specs.Recording.{Recording}
use Rattle.jc_engine.specs.Opening.{open_refusal}
use Rattle.jc_locked.specs.declared.fault.SharedRefusal.{SharedRefusal}
use Rattle.jc_locked.specs.declared.fault.SharedRefusal.TheVariants.{Caches, HooksDiffer, OutOfMemory}
use Rattle.jc_locked.specs.declared.hooks.SharedHooks.{SharedHooks}
use Rattle.jc_locked.specs.Stated.{processor_counts, wanted_counts, lock_flags, wanted_locks}

-- no call has been made of the recorded engine, which has these configurations, and there are callbacks for each, and a
-- hooks lock for each that has any
pub record IsOpened {L P X : Type 0} (configs : List CacheConfig) (recorded : Recording) (shared : List (SharedHooks L P)) (locks : List (Option X)) : Type 0 where
  pub unused : lives_of recorded.caches ≡ opened_from 0 configs
  pub uncalled : recorded.transcript ≡ at_first 0 configs
  pub counted : processor_counts shared ≡ wanted_counts configs
  pub locked : lock_flags locks ≡ wanted_locks configs

-- a table without rows: the name of the index that shows it, and the seed that picks the places of its rows
pub record Blank : Type 0 where
  pub index : TableId
  pub seed : ℕ

-- a table of 16 buckets without rows, and an index that shows it
pub record IsBlank (placer buckets : ℕ) (cells : List (Option Held)) (words : Index ℕ) : Type 0 where
  pub cells_are : cells ≡ replicate 64 None
  pub placer_is : words.placer ≡ placer
  pub images_are : words.images ≡ image_of buckets cells ∷ []

-- what was handed in, as a manager keeps it
pub record HandedIn (L P : Type 0) : Type 0 where
  pub configs : List CacheConfig
  pub shared : List (SharedHooks L P)
  pub index : TableId
  pub seed : ℕ

module _ {L W P K : Type 0} (wants : P → Bool) where
  abbrev pub CanOpen : List CacheConfig → List (CacheHooks L W P K) → Type 0
  CanOpen configs hooks = (open_refusal configs ≡ None) × AllSuit wants configs hooks

  -- why nothing opens
  abbrev pub IsOpeningRefusal : List CacheConfig → List (CacheHooks L W P K) → SharedRefusal → Type 0
  IsOpeningRefusal configs hooks (Caches refusal) = open_refusal configs ≡ Some refusal
  IsOpeningRefusal configs hooks (HooksDiffer cache) = (open_refusal configs ≡ None) × DifferFirst wants configs hooks cache
  IsOpeningRefusal configs hooks OutOfMemory = CanOpen configs hooks
