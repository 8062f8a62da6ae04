-- What a cache keeps, and what it means.
use Rattle.std.specs.Prelude.{◌≡◌, ◌<◌, ◌≤◌, ◌+◌, ◌-◌, ℕ, Bool, eqb, ltb, min, cond, if◌then◌else◌, List, [], ◌∷◌, length, map, count_by, Option, Some, None, option_map, true}
use Rattle.jc_model.specs.declared.call.Counts.{Counts}
use Rattle.jc_model.specs.declared.call.Notice.{Notice}
use Rattle.jc_model.specs.declared.config.CacheConfig.{CacheConfig}
use Rattle.jc_model.specs.State.{Item, State, row_of, is_live, one_more, turned}
use Rattle.jc_model.specs.Changes.{Progress}
use Rattle.jc_model.specs.Whole.{holds}
use Rattle.jc_ring.specs.Ring.{first}
use Rattle.jc_rows.specs.Rows.{RowMap}
use Rattle.jc_ops.specs.declared.slots.Record.{Record}
use Rattle.jc_ops.specs.Shelf.{Cell, seek, has_row}
use Rattle.jc_ops.specs.Tied.{Tied}

-- its configuration, its id, the rows in the order of the ring, and the statistics
pub record Kept : Type 0 where
  pub config : CacheConfig
  pub id : ℕ
  pub cells : List Cell
  pub counts : Counts

-- what a cache keeps, and how many rows it has memory for
pub record Housed : Type 0 where
  pub kept : Kept
  pub places : ℕ

-- For how many further rows there is room, where the table has room for so many. A cache with places for all rows that it
-- may have needs none: a row goes before another comes.
abbrev pub room_for : ℕ → ℕ → ℕ → ℕ → ℕ
room_for spare places capacity many = if ltb places capacity then min spare (places - many) else spare

abbrev pub room_in : ℕ → Housed → ℕ
room_in spare h = room_for spare h.places h.kept.config.capacity (length h.kept.cells)

-- the same places with other rows
abbrev pub with_cells : List Cell → Housed → Housed
with_cells cells h = record h { kept = record h.kept { cells = cells } }

-- it has memory for so many rows more, or for all that it may have
abbrev pub HasPlacesForRows : ℕ → Housed → Type 0
HasPlacesForRows more h = min (length h.kept.cells + more) h.kept.config.capacity ≤ h.places

abbrev pub LacksPlacesForRows : ℕ → Housed → Type 0
LacksPlacesForRows more h = h.places < min (length h.kept.cells + more) h.kept.config.capacity

abbrev pub item_of : Cell → Item
item_of c = record { key = c.held.key; value = c.held.value; expiry = c.held.expiry; used = c.bit }

abbrev pub items_of : List Cell → List Item
items_of cs = map item_of cs

abbrev pub state_of : Kept → State
state_of k = record { ring = items_of k.cells; counts = k.counts }

abbrev pub progress_of : Kept → List Notice → Progress
progress_of k told = record { state = state_of k; notices = told }

-- the key's row, if it has one
abbrev pub key_row : Kept → List ℕ → Option Item
key_row k key = row_of key (items_of k.cells)

-- The cache with one more counted.

abbrev pub with_hit : Kept → Kept
with_hit k = record k { counts = record k.counts { hits = one_more k.counts.hits } }

abbrev pub with_miss : Kept → Kept
with_miss k = record k { counts = record k.counts { misses = one_more k.counts.misses } }

abbrev pub with_put : Kept → Kept
with_put k = record k { counts = record k.counts { puts = one_more k.counts.puts } }

abbrev pub with_removal : Kept → Kept
with_removal k = record k { counts = record k.counts { removals = one_more k.counts.removals } }

abbrev pub with_eviction : Kept → Kept
with_eviction k = record k { counts = record k.counts { evictions = one_more k.counts.evictions } }

-- the cache and the table say the same of its rows
abbrev pub IsTied : RowMap → Kept → Type 0
IsTied m k = Tied m k.id k.cells

-- what the row of an item holds
abbrev pub record_of : Item → Record
record_of x = record { key = x.key; value = x.value; expiry = x.expiry }

-- the item of such a record, with this bit
abbrev pub item_with : Record → Bool → Item
item_with held used = record { key = held.key; value = held.value; expiry = held.expiry; used = used }

-- The hand has turned until it stopped, at the row of this number, which is now the first.
pub record IsVictim (now : ℕ) (old new : Kept) (row : ℕ) : Type 0 where
  pub hand : items_of new.cells ≡ turned now (items_of old.cells)
  pub at : option_map (λ c. c.row) (first new.cells) ≡ Some row
  pub tied : (m : RowMap) → IsTied m old → IsTied m new
  pub many : length new.cells ≡ length old.cells
  pub kept : new ≡ record old { cells = new.cells }

-- the key's row is at this number, and x is its item
pub record IsRow (key : List ℕ) (k : Kept) (row : ℕ) (x : Item) : Type 0 where
  pub found : row_of key (items_of k.cells) ≡ Some x
  pub key_is : x.key ≡ key
  pub there : seek row k.cells ≡ Some (record_of x)
  pub on : has_row row k.cells ≡ true

-- where the key's row is, if it has one
abbrev pub FoundRow : List ℕ → Kept → Option ℕ → Type 0
FoundRow key k None = row_of key (items_of k.cells) ≡ None
FoundRow key k (Some row) = (x : Item) × IsRow key k row x

-- the key has a live row
abbrev pub has_live : ℕ → List ℕ → Kept → Bool
has_live now key k = holds k.config now key (state_of k)

-- what the key's live row holds
abbrev pub live_row : ℕ → List ℕ → State → Option Record
live_row now key s = elim (row_of key s.ring) [ None ↦ None | Some x ↦ if is_live now x then Some (record_of x) else None ]

-- Rows by their numbers.

abbrev pub numbers_of : List Cell → List ℕ
numbers_of cells = map (λ c. c.row) cells

-- what the row of this number holds
abbrev pub row_numbered : ℕ → List ℕ → List Item → Option Record
row_numbered n [] xs = None
row_numbered n (m ∷ ms) [] = None
row_numbered n (m ∷ ms) (x ∷ xs) = cond (eqb m n) (Some (record_of x)) (row_numbered n ms xs)

-- each row has a number below the capacity, and no two have one
pub record AreNumbered (capacity : ℕ) (numbers : List ℕ) (ring : List Item) : Type 0 where
  pub each : length numbers ≡ length ring
  pub apart : (n : ℕ) → count_by (eqb n) numbers ≤ 1
  pub below : (n : ℕ) → capacity ≤ n → row_numbered n numbers ring ≡ None
