-- The table as a list of rows.
use Rattle.std.specs.Prelude.{ℕ, List}
use Rattle.std.specs.FinMap as map
use Rattle.jc_model.specs.declared.config.Expiry.{Expiry}
use Rattle.jc_rows.specs.Rows.{RowMap}

-- each row by its place, and for how many more there is room
pub record Listed : Type 0 where
  pub rows : List ((ℕ × List ℕ) × (ℕ × Expiry))
  pub spare : ℕ

-- no place is listed twice
abbrev pub contents_of : Listed → RowMap
contents_of table = map.from_entries table.rows
