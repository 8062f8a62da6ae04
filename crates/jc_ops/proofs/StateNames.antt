-- The names from below and from this crate's specs that the proofs read.
pub use Rattle.jc_model.specs.declared.call.Kind.TheVariants.{Updated}
pub use Rattle.jc_model.specs.declared.call.Notice.{Notice}
pub use Rattle.jc_model.specs.declared.config.CacheConfig.{CacheConfig}
pub use Rattle.jc_model.specs.declared.config.Expiry.{Expiry}
pub use Rattle.jc_model.specs.State.{Item, live, is_live, stops_at, passed, before_stop, from_stop, turned, row_of, without, with_row, one_more, after_access, after_update}
pub use Rattle.jc_model.specs.Changes.{Progress, with_ring, notify, expire, purge, make_room, with_room, evicted, expired, updated}
pub use Rattle.jc_model.specs.Whole.{holds}
pub use Rattle.jc_ring.specs.Ring.{first, on_ring, ring_touched}
pub use Rattle.jc_rows.specs.Rows.{RowMap, with_expiry}
pub use Rattle.jc_ops.specs.declared.slots.Record.{Record}
pub use Rattle.jc_ops.specs.Shelf.{Cell, seek, bit_in, saved_cell, has_row, row_after, without_row, cleared, turned_cells, stored_cell, stored, new_cell, with_expiry_of, slot, held_of, cells_of, IsShelf, ListsVacant, IsSlots}
pub use Rattle.jc_ops.specs.Tied.{Distinct, Each, IsThere, Placed, Tied, SameElsewhere}
pub use Rattle.jc_ops.specs.Noted.{told_after}
pub use Rattle.jc_ops.specs.Kept.{Kept, item_of, item_with, items_of, state_of, progress_of, record_of, IsTied, IsVictim, IsRow, FoundRow, Housed, room_for, room_in, with_cells, HasPlacesForRows, LacksPlacesForRows}
pub use Rattle.jc_ops.specs.Visited.{Visited, IsKeptIn, IsSameVisit, SpendsAtMost, IsWithout, progress_in}
