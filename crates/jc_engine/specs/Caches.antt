-- The caches of a manager, as its callers see them: by id, where a cache is live or none is.
use Rattle.std.specs.Prelude.{◌≡◌, ◌==◌, ◌&&◌, not, ℕ, Bool, false, List, [], length, map, option_map, Option, Some, None}
use Rattle.std.specs.FinMap as table
use Rattle.jc_model.specs.declared.config.CacheConfig.{CacheConfig}
use Rattle.jc_model.specs.declared.config.Expiry.{Expiry}
use Rattle.jc_model.specs.State.{State, first_state, row_of}
use Rattle.jc_model.specs.Changes.{Progress, begun}
use Rattle.jc_model.specs.Run.{Awaited}
use Rattle.jc_model.specs.Whole.{holds}
use Rattle.jc_model.specs.Sound.{IsSound}
use Rattle.jc_model.specs.Runs.{Status, Lives, opened_from}
use Rattle.jc_model.specs.Suspended.{Wait, standing_by}
use Rattle.jc_model.specs.Places.{at_place, all_there, none_before, named_from}
use Rattle.jc_rows.specs.Rows.{RowMap}
use Rattle.jc_ops.specs.declared.slots.Record.{Record}
use Rattle.jc_ops.specs.Kept.{AreNumbered, live_row, row_numbered}

-- a cache: its rows and counters with the notices of its open call, how that call goes on, if there is one, and the
-- numbers of its rows, in the order of its ring
pub record Cache : Type 0 where
  pub config : CacheConfig
  pub progress : Progress
  pub turn : Option (Awaited × Wait)
  pub numbers : List ℕ

-- how it stands
abbrev pub status_of : Cache → Status
status_of k = record { config = k.config; standing = standing_by k.config k.progress k.turn }

-- no rows, no counts, no open call
abbrev pub fresh_cache : CacheConfig → Cache
fresh_cache c = record { config = c; progress = begun first_state; turn = None; numbers = [] }

-- how all live ones stand
abbrev pub lives_of : List (Option Cache) → Lives
lives_of caches = map (option_map status_of) caches

-- a manager as it is opened, with ids from the first
abbrev pub fresh_from : ℕ → List CacheConfig → List (Option Cache)
fresh_from first configs = none_before first (map (λ c. Some (fresh_cache c)) configs)

-- they stand as when a manager has just been opened
abbrev pub AreJustOpened : List (Option Cache) → Type 0
AreJustOpened caches = (first : ℕ) × (configs : List CacheConfig) × (lives_of caches ≡ opened_from first configs)

-- the names of the live ones, in order of id
abbrev pub names_of : List (Option Cache) → List (List ℕ)
names_of caches = map (λ k. k.config.name) (all_there caches)

-- the id of the live one with this name
abbrev pub id_of : List ℕ → List (Option Cache) → Option ℕ
id_of name caches = named_from (λ k. k.config.name) name 0 caches

-- in each cache no two rows have one key, and there are no more rows than it may have
abbrev pub AreSound : List (Option Cache) → Type 0
AreSound caches = (id : ℕ) (k : Cache) → at_place caches id ≡ Some k → IsSound k.config k.progress.state

-- when a cache's row of this key expires
abbrev pub expiry_at : List ℕ → Option State → Option Expiry
expiry_at key None = None
expiry_at key (Some s) = option_map (λ x. x.expiry) (row_of key s.ring)

abbrev pub expiry_in : List ℕ → Option Cache → Option Expiry
expiry_in key k = expiry_at key (option_map (λ k. k.progress.state) k)

-- the table has at each place the expiry that the cache there has for the key
abbrev pub IsTableOf : RowMap → List (Option Cache) → Type 0
IsTableOf rows caches =
    (id : ℕ) (key : List ℕ) → option_map (λ row. row.1) (table.get rows (id, key)) ≡ expiry_in key (at_place caches id)

-- whether a cache has no callbacks, so that its calls make no request
abbrev pub asks_no_one : CacheConfig → Bool
asks_no_one c = not c.loader && (not c.writer && ((length c.processors == 0) && (c.listeners == 0)))

abbrev pub asks_no_one_in : Option Cache → Bool
asks_no_one_in None = false
asks_no_one_in (Some k) = asks_no_one k.config

-- whether a cache has a live row of this key
abbrev pub holds_in : ℕ → List ℕ → Option Cache → Bool
holds_in now key None = false
holds_in now key (Some k) = holds k.config now key k.progress.state

-- Looks at a cache.

abbrev pub config_in : Option Cache → Option CacheConfig
config_in k = option_map (λ k. k.config) k

-- how many rows it has
abbrev pub count_in : Option Cache → Option ℕ
count_in k = option_map (λ k. length k.progress.state.ring) k

-- what its live row of this key holds
abbrev pub live_row_in : ℕ → List ℕ → Option Cache → Option Record
live_row_in now key None = None
live_row_in now key (Some k) = live_row now key k.progress.state

-- what its row of this number holds
abbrev pub row_in : ℕ → Option Cache → Option Record
row_in number None = None
row_in number (Some k) = row_numbered number k.numbers k.progress.state.ring

-- each of its rows has a number below its capacity, and no two have one
abbrev pub NumbersRows : Option Cache → Type 0
NumbersRows None = Unit {0}
NumbersRows (Some k) = AreNumbered k.config.capacity k.numbers k.progress.state.ring
