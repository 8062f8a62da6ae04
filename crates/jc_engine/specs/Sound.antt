-- What is true of a manager's fields.
use Rattle.std.specs.Prelude.{◌≡◌, ℕ, zero, suc, ◌≤◌, List, [], ◌∷◌, ◌++◌, map, option_map, length, if◌then◌else◌, nat_eq, Option, Some, None}
use Rattle.std.specs.FinMap as table
use Rattle.jc_model.specs.Limits.{most_ids}
use Rattle.jc_rows.specs.Rows.{RowMap}
use Rattle.jc_ops.specs.Kept.{Kept}
use Rattle.jc_ops.specs.Visited.{Visited}
use Rattle.jc_engine.specs.Caches.{Cache, lives_of}
use Rattle.jc_engine.specs.Managed.{Slot, IsManaged, cache_in}
use Rattle.jc_model.specs.Refusals.{Member, broken_limit}
use Rattle.jc_model.specs.Runs.{members_of}

-- the rows at an id are those of its cache, if there is one
abbrev pub IsAt : RowMap → ℕ → Option Slot → Type 0
IsAt m id None = (key : List ℕ) → table.get m (id, key) ≡ None
IsAt m id (Some cache) = IsManaged m id cache

-- all numbers below n, each with what it has
abbrev pub places_of : {A : Type 0} → (ℕ → Option A) → ℕ → List (Option A)
places_of f zero = []
places_of f (suc n) = places_of f n ++ f n ∷ []

-- nothing from n on
abbrev pub NoneFrom : {A : Type 0} → ℕ → (ℕ → Option A) → Type 0
NoneFrom n f = (k : ℕ) → n ≤ k → f k ≡ None

-- a number has this value now, and the others have what they had
abbrev pub Puts : {A : Type 0} → (ℕ → Option A) → ℕ → Option A → (ℕ → Option A) → Type 0
Puts old number value new = (other : ℕ) → new other ≡ (if nat_eq number other then value else old other)

-- the caches at all ids that have been given
abbrev pub caches_in : (ℕ → Option Slot) → ℕ → List (Option Cache)
caches_in caches next = map (option_map cache_in) (places_of caches next)

-- a cache's configuration keeps all limits
abbrev pub HasLimits : Option Slot → Type 0
HasLimits None = Unit {0}
HasLimits (Some cache) = broken_limit cache.state.config ≡ None

-- Between two calls the visit has a cache without rows, whose id is given to none.
pub record IsSpare (spare : Kept) : Type 0 where
  pub empty : spare.cells ≡ []
  pub id_is : spare.id ≡ most_ids

-- A manager's fields. The table has the rows of all caches and no others; the members are the caches, and no id from the
-- next on has one; each configuration keeps all limits; and between two calls the visit has a spare cache, and no notices.
pub record IsManager (v : Visited) (caches : ℕ → Option Slot) (members : List (Option Member)) : Type 0 where
  pub each : (id : ℕ) → IsAt v.table id (caches id)
  pub beyond : NoneFrom (length members) caches
  pub listed : members ≡ members_of (lives_of (caches_in caches (length members)))
  pub limits : (id : ℕ) → HasLimits (caches id)
  pub few : length members ≤ most_ids
  pub spare : IsSpare v.cache
  pub untold : v.noted.told ≡ []
