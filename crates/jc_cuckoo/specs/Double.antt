-- A table of twice as many buckets, and how far it is filled.
use Rattle.std.specs.Prelude.{◌≡◌, ℕ, ◌+◌, ◌-◌, ◌*◌, ◌<◌, ◌≤◌, ◌++◌, List, length, map, take, slice_set, Option, Some, None, IsPermutation}
use Rattle.std.specs.FinMap as maps
use Rattle.jc_cuckoo.specs.declared.held.Held.{Held}
use Rattle.jc_place.specs.declared.place.Place.{Place}
use Rattle.jc_cuckoo.specs.Cells.{held_place, held_row, cell, rows_in, first_bucket, second_bucket, IsOnce, IsSlotVacant, IsFull}
use Rattle.jc_rows.specs.Images.{Image}
use Rattle.jc_cuckoo.specs.Images.{CoversImage, image_of}
use Rattle.jc_cuckoo.specs.Table.{Table}

-- the first slot of a bucket that holds none
pub record IsFirstVacant (cells : List (Option Held)) (bucket : ℕ) (i : ℕ) : Type 0 where
  pub vacant : IsSlotVacant cells bucket i
  pub first : (j : ℕ) → 4 * bucket ≤ j → j < i → cell cells j ≡ None → ⊥

-- a row was put into the first empty slot of a bucket
pub record IsFilled (before after : List (Option Held)) (bucket : ℕ) (held : Held) : Type 0 where
  pub at : ℕ
  pub first : IsFirstVacant before bucket at
  pub cells : after ≡ slice_set before at (Some held)

-- a row was added, and all rows that were placed still are
pub record IsAdded {P M : Type 0} (before after : Table P M) (held : Held) : Type 0 where
  pub placer : after.placer ≡ before.placer
  pub buckets : after.buckets ≡ before.buckets
  pub rows : rows_in after.cells ≡ maps.insert (rows_in before.cells) (held_place held) (held_row held)
  pub total : before.room + length before.cells ≤ after.room + length after.cells
  pub longer : length after.cells ≤ length before.cells + 1
  pub covers : CoversImage (image_of before.buckets before.cells) (image_of after.buckets after.cells)

-- of 2n buckets: from a slot of a table of n on, both buckets of that slot's bucket are empty from that slot on
pub record IsBlankFrom (n : ℕ) (cells : List (Option Held)) (at : ℕ) : Type 0 where
  pub blank : (j : ℕ) → at ≤ j → j < 4 * n → (cell cells j ≡ None) × (cell cells (4 * n + j) ≡ None)

-- a table of twice as many buckets has the rows of the first slots of one
pub record HasSlots {P M N : Type 0} (table : Table P M) (at : ℕ) (twice : Table P N) : Type 0 where
  pub placer : twice.placer ≡ table.placer
  pub buckets : twice.buckets ≡ 2 * table.buckets
  pub rows : rows_in twice.cells ≡ rows_in (take at table.cells)
  pub slots : length twice.cells ≡ 8 * table.buckets
  pub blank : IsBlankFrom table.buckets twice.cells at

-- each row of the stash has two full buckets
pub record NeedsStash (placing : ℕ → List ℕ → Place) (n : ℕ) (cells : List (Option Held)) : Type 0 where
  pub full : (i : ℕ) (h : Held) → 4 * n ≤ i → cell cells i ≡ Some h → IsFull cells (first_bucket placing n (held_place h)) × IsFull cells (second_bucket placing n (held_place h))

-- where each row of the stash had, each still has
abbrev pub KeepsStashNeeded : {P M : Type 0} → (P → ℕ → List ℕ → Place) → Table P M → Table P M → Type 0
KeepsStashNeeded placing before after =
    NeedsStash (placing before.placer) before.buckets before.cells
    → NeedsStash (placing before.placer) after.buckets after.cells

-- it has the rows of all slots and of the first cells of the stash
pub record HasStash {P M N : Type 0} (placing : P → ℕ → List ℕ → Place) (table : Table P M) (at : ℕ) (twice : Table P N) : Type 0 where
  pub placer : twice.placer ≡ table.placer
  pub buckets : twice.buckets ≡ 2 * table.buckets
  pub rows : rows_in twice.cells ≡ rows_in (take at table.cells)
  pub short : length twice.cells ≤ 4 * table.buckets + at
  pub covers : CoversImage (image_of table.buckets table.cells) (image_of twice.buckets twice.cells)
  pub needed : NeedsStash (placing table.placer) twice.buckets twice.cells

-- it has room for twice as many slots, the rows of the stash, and as many rows more
abbrev pub HasRoomForStash : {P M N : Type 0} → Table P M → Table P N → Type 0
HasRoomForStash table twice = 4 * table.buckets + length table.cells + table.room ≤ twice.room + length twice.cells

-- these are the rows of the stash, each behind a number
pub record HoldsStash (buckets : ℕ) (cells : List (Option Held)) (rows : List (ℕ × Held)) : Type 0 where
  pub once : IsOnce cells
  pub wide : 4 * buckets ≤ length cells
  pub is : cells ≡ take (4 * buckets) cells ++ map (λ row. Some row.1) rows

-- the rows of the stash in another order, no place twice
pub record AreStashRows (buckets : ℕ) (cells : List (Option Held)) (rows : List (ℕ × Held)) : Type 0 where
  pub once : IsOnce cells
  pub wide : 4 * buckets ≤ length cells
  pub permutes : IsPermutation cells (take (4 * buckets) cells ++ map (λ row. Some row.1) rows)

abbrev pub with_stash_rows : {P M : Type 0} → Table P M → List (ℕ × Held) → Table P M
with_stash_rows table rows = record table { cells = take (4 * table.buckets) table.cells ++ map (λ row. Some row.1) rows }

-- It has the same rows: each that was placed still is, the stash is no longer, and the room no less. No row is in the
-- stash for which one of its two buckets has an empty slot.
pub record IsDoubled {P M N : Type 0} (placing : P → ℕ → List ℕ → Place) (table : Table P M) (twice : Table P N) : Type 0 where
  pub placer : twice.placer ≡ table.placer
  pub buckets : twice.buckets ≡ 2 * table.buckets
  pub rows : rows_in twice.cells ≡ rows_in table.cells
  pub stash : length twice.cells - 4 * twice.buckets ≤ length table.cells - 4 * table.buckets
  pub room : table.room ≤ twice.room
  pub covers : CoversImage (image_of table.buckets table.cells) (image_of twice.buckets twice.cells)
  pub needed : NeedsStash (placing table.placer) twice.buckets twice.cells

-- nothing changed, and no image was told
pub record IsLeft {P M : Type 0} (told : M → Option (List Image)) (before after : Table P M) : Type 0 where
  pub placer : after.placer ≡ before.placer
  pub buckets : after.buckets ≡ before.buckets
  pub cells : after.cells ≡ before.cells
  pub room : after.room ≡ before.room
  pub images : told after.mirror ≡ told before.mirror

-- the buckets became twice as many: only where there were fewer than 65,536, and rows for half of their slots
pub record Doubles {P M : Type 0} (before after : Table P M) : Type 0 where
  pub twice : after.buckets ≡ 2 * before.buckets
  pub below : before.buckets < 65536
  pub half : 2 * before.buckets ≤ maps.len (rows_in before.cells)
