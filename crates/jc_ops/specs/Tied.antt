-- The tie between the rows of one cache and the table that all caches share.
use Rattle.std.specs.Prelude.{◌≡◌, ℕ, false, eqb, List, [], ◌∷◌, Some, None, option_map}
use Rattle.std.specs.FinMap as table
use Rattle.jc_model.specs.declared.config.Expiry.{Expiry}
use Rattle.jc_rows.specs.Rows.{RowMap}
use Rattle.jc_ops.specs.declared.slots.Record.{Record}
use Rattle.jc_ops.specs.Shelf.{Cell, seek, has_row}

-- no two rows have one number
abbrev pub Distinct : List Cell → Type 0
Distinct [] = Unit {0}
Distinct (c ∷ cs) = (has_row c.row cs ≡ false) × Distinct cs

-- P is true of each row, by its number and what it holds
abbrev pub Each : (ℕ → Record → Type 0) → List Cell → Type 0
Each P [] = Unit {0}
Each P (c ∷ cs) = P c.row c.held × Each P cs

-- the table says of a row where it is and when it expires
abbrev pub IsThere : RowMap → ℕ → ℕ → Record → Type 0
IsThere m id r it = table.get m (id, it.key) ≡ Some (r, it.expiry)

abbrev pub Placed : RowMap → ℕ → List Cell → Type 0
Placed m id cs = Each (IsThere m id) cs

-- the table has each row of the cache, and no other of this cache
pub record Tied (m : RowMap) (id : ℕ) (cs : List Cell) : Type 0 where
  pub distinct : Distinct cs
  pub placed : Placed m id cs
  pub found : (k : List ℕ) (r : ℕ) (e : Expiry) → table.get m (id, k) ≡ Some (r, e) → option_map (λ it. it.key) (seek r cs) ≡ Some k

-- what the table says of other caches stays
abbrev pub SameElsewhere : ℕ → RowMap → RowMap → Type 0
SameElsewhere id m n = (other : ℕ) (k : List ℕ) → eqb other id ≡ false → table.get n (other, k) ≡ table.get m (other, k)

-- keys of this cache that have no row still have none
abbrev pub StaysAbsent : ℕ → RowMap → RowMap → Type 0
StaysAbsent id m n = (k : List ℕ) → table.get m (id, k) ≡ None → table.get n (id, k) ≡ None
