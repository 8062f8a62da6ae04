-- The notices of a call so far, and the places that are left for more.
use Rattle.std.specs.Prelude.{◌≡◌, ℕ, ◌<◌, ◌≤◌, if◌then◌else◌, ltb, List, [], ◌∷◌, ◌++◌, Option, Some, None, option_map}
use Rattle.jc_model.specs.declared.call.Kind.{Kind}
use Rattle.jc_model.specs.declared.call.Notice.{Notice}
use Rattle.jc_model.specs.declared.config.CacheConfig.{CacheConfig}
use Rattle.jc_ops.specs.declared.stored.Stored.{Stored}

pub record Noted : Type 0 where
  pub told : List Notice
  pub spare : ℕ

-- where there are listeners, there are n places
abbrev pub HasPlaces : CacheConfig → ℕ → Noted → Type 0
HasPlaces c n s = 0 < c.listeners → n ≤ s.spare

-- there are listeners, and fewer than n places
abbrev pub LacksPlaces : CacheConfig → ℕ → Noted → Type 0
LacksPlaces c n s = (0 < c.listeners) × (s.spare < n)

-- a notice of this kind, with the value after and before
abbrev pub notice_of : Kind → List ℕ → Option (List ℕ) → Option (List ℕ) → Notice
notice_of kind key value before = record { kind = kind; key = key; value = value; before = before }

-- without listeners no notices are made
abbrev pub told_after : CacheConfig → Notice → List Notice → List Notice
told_after c n told = if ltb 0 c.listeners then told ++ n ∷ [] else told

-- the value of what is stored
abbrev pub stored_value : Option Stored → Option (List ℕ)
stored_value stored = option_map (λ s. s.value) stored

-- listeners are told a value of its own
abbrev pub IsTold : CacheConfig → Stored → Type 0
IsTold c s = 0 < c.listeners → s.told ≡ Some s.value

-- without listeners no copy is kept for them
abbrev pub IsSpared : CacheConfig → Stored → Type 0
IsSpared c s = c.listeners ≡ 0 → s.told ≡ None

-- what is stored is told where there are listeners, and is spared the copy where there are none
abbrev pub StoredIsTold : CacheConfig → Option Stored → Type 0
StoredIsTold c None = Unit {0}
StoredIsTold c (Some s) = IsTold c s × IsSpared c s
