-- A call's visit to its cache, and what stays while it changes.
use Rattle.std.specs.Prelude.{◌≡◌, ◌+◌, ◌≤◌, ℕ, Bool, List, length}
use Rattle.std.specs.Coded.{Coded, coded_ℕ, coded_list, coded×}
use Rattle.std.specs.FinMap as table
use Rattle.jc_model.specs.contracts.config.Expiry as expiry
use Rattle.jc_model.specs.State.{without}
use Rattle.jc_model.specs.Changes.{Progress}
use Rattle.jc_rows.specs.Images.{Image, Shows, SeesLast}
use Rattle.jc_rows.specs.Rows.{RowMap}
use Rattle.jc_ops.specs.Kept.{Kept, IsTied, items_of, has_live, progress_of}
use Rattle.jc_ops.specs.Noted.{Noted, HasPlaces, LacksPlaces}
use Rattle.jc_ops.specs.Shelf.{seek, held_of, without_row}
use Rattle.jc_ops.specs.Tied.{SameElsewhere, StaysAbsent}

-- the cache, the table that all caches share and the rows for which it has room, the notices so far, and the moment
pub record Visited : Type 0 where
  pub cache : Kept
  pub table : RowMap
  pub spare : ℕ
  pub noted : Noted
  pub moment : ℕ

-- by which a proof tells tables apart
abbrev pub table_code : Coded RowMap
table_code = table.code (coded× coded_ℕ (coded_list coded_ℕ)) (coded× coded_ℕ expiry.the_row.coded)

-- the table and the cache say the same of its rows, and they are no more than it may have
pub record IsKeptIn (m : RowMap) (k : Kept) : Type 0 where
  pub tied : IsTied m k
  pub within : length k.cells ≤ k.config.capacity

-- how far the call has come
abbrev pub progress_in : Visited → Progress
progress_in v = progress_of v.cache v.noted.told

-- the key has a live row
abbrev pub has_live_in : Visited → List ℕ → Bool
has_live_in v key = has_live v.moment key v.cache

-- where the cache has listeners, there are n places for notices
abbrev pub HasPlacesIn : ℕ → Visited → Type 0
HasPlacesIn n v = HasPlaces v.cache.config n v.noted

-- it has listeners, and there are fewer
abbrev pub LacksPlacesIn : ℕ → Visited → Type 0
LacksPlacesIn n v = LacksPlaces v.cache.config n v.noted

-- It is of the same cache at the same moment, and the table says the same of other caches.
pub record IsSameVisit (v w : Visited) : Type 0 where
  pub config : w.cache.config ≡ v.cache.config
  pub id : w.cache.id ≡ v.cache.id
  pub moment : w.moment ≡ v.moment
  pub elsewhere : SameElsewhere v.cache.id v.table w.table

-- And it has used room for no more than so many rows, and no more than so many places for notices.
pub record SpendsAtMost (rows notices : ℕ) (v w : Visited) : Type 0 where
  pub same : IsSameVisit v w
  pub room : v.spare ≤ w.spare + rows
  pub places : v.noted.spare ≤ w.noted.spare + notices

-- A row has gone, from the cache and from the table.
pub record IsWithout (row : ℕ) (v w : Visited) : Type 0 where
  pub kept : w.cache ≡ record v.cache { cells = without_row row v.cache.cells }
  pub one : length w.cache.cells + 1 ≡ length v.cache.cells
  pub left : items_of w.cache.cells ≡ without (held_of (seek row v.cache.cells)).key (items_of v.cache.cells)
  pub still_absent : StaysAbsent v.cache.id v.table w.table

-- Nothing has changed but the room and the places that are left.
pub record IsUnchanged (v w : Visited) : Type 0 where
  pub cache : w.cache ≡ v.cache
  pub table : w.table ≡ v.table
  pub told : w.noted.told ≡ v.noted.told
  pub moment : w.moment ≡ v.moment

-- A watcher has met the table, and the last image that it has seen shows what the table has.
pub record SeesTable (m : RowMap) (images : List Image) (met : Bool) : Type 0 where
  pub image : Image
  pub shows : Shows m image
  pub last : SeesLast image images met
