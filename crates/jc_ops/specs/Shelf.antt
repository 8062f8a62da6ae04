-- The rows of one cache in the order of its ring, and where they are kept.
use Rattle.std.specs.Prelude.{◌≡◌, ◌+◌, ◌<◌, ◌≤◌, ◌^◌, ℕ, Bool, false, true, eqb, ltb, ◌||◌, ◌&&◌, not, cond, List, [], ◌∷◌, ◌++◌, length}
use Rattle.std.specs.Prelude.{Option, Some, None, option_map, is_some, count_by, map, filter, slice_index_or}
use Rattle.jc_model.specs.declared.config.Expiry.{Expiry}
use Rattle.jc_model.specs.declared.config.Expiry.TheVariants.{Never}
use Rattle.jc_ops.specs.declared.slots.Record.{Record}
use Rattle.jc_ring.specs.Ring.{on_ring, first}

-- a row: its number, what it holds, and its bit
pub record Cell : Type 0 where
  pub row : ℕ
  pub held : Record
  pub bit : Bool

-- a new row: its bit is clear
abbrev pub new_cell : ℕ → Record → Cell
new_cell row held = record { row = row; held = held; bit = false }

-- a row as it was saved
abbrev pub saved_cell : ℕ → Record → Bool → Cell
saved_cell row held used = record { row = row; held = held; bit = used }

-- what the row of this number holds
abbrev pub seek : ℕ → List Cell → Option Record
seek r [] = None
seek r (c ∷ cs) = cond (eqb c.row r) (Some c.held) (seek r cs)

-- its bit
abbrev pub bit_in : ℕ → List Cell → Bool
bit_in r [] = false
bit_in r (c ∷ cs) = cond (eqb c.row r) c.bit (bit_in r cs)

abbrev pub has_row : ℕ → List Cell → Bool
has_row r [] = false
has_row r (c ∷ cs) = eqb c.row r || has_row r cs

-- the number of the row behind a row
abbrev pub row_after : ℕ → List Cell → Option ℕ
row_after r [] = None
row_after r (c ∷ cs) = cond (eqb c.row r) (option_map (λ d. d.row) (first cs)) (row_after r cs)

abbrev pub without_row : ℕ → List Cell → List Cell
without_row r cs = filter (λ c. not (eqb c.row r)) cs

-- the first row goes last, its bit clear
abbrev pub cleared : Cell → Cell
cleared c = record { row = c.row; held = c.held; bit = false }

abbrev pub turned_cells : List Cell → List Cell
turned_cells [] = []
turned_cells (c ∷ cs) = cs ++ cleared c ∷ []

-- the row holds this, and its bit is set
abbrev pub stored_cell : ℕ → Record → Cell → Cell
stored_cell r it c = cond (eqb c.row r) (record { row = c.row; held = it; bit = true }) c

abbrev pub stored : ℕ → Record → List Cell → List Cell
stored r it cs = map (stored_cell r it) cs

abbrev pub with_expiry_of : Expiry → Record → Record
with_expiry_of e it = record { key = it.key; value = it.value; expiry = e }

-- Records by row number.

abbrev pub slot : List (Option Record) → ℕ → Option Record
slot slots r = slice_index_or slots r None

-- each vacant row is listed once, and nothing else is
abbrev pub ListsVacant : List (Option Record) → List ℕ → Type 0
ListsVacant slots vacant = (r : ℕ) → count_by (eqb r) vacant ≡ cond (ltb r (length slots) && not (is_some (slot slots r))) 1 0

-- the vacant ones are listed, with room for the numbers of all
pub record IsSlots (slots : List (Option Record)) (vacant : List ℕ) (room : ℕ) : Type 0 where
  pub few : length slots < 2 ^ 32
  pub vacancies : ListsVacant slots vacant
  pub all : length vacant + count_by is_some slots ≡ length slots
  pub roomy : length slots ≤ room

abbrev pub held_of : Option Record → Record
held_of None = record { key = []; value = []; expiry = Never }
held_of (Some it) = it

abbrev pub cell_at : List (Option Record) → ℕ × Bool → Cell
cell_at slots p = record { row = p.0; held = held_of (slot slots p.0); bit = p.1 }

abbrev pub cells_of : List (Option Record) → List (ℕ × Bool) → List Cell
cells_of slots ring = map (cell_at slots) ring

-- the filled slots are those on the ring, and both have the same places, no more than the cache may have rows
pub record IsShelf (slots : List (Option Record)) (ring : List (ℕ × Bool)) (limit capacity : ℕ) : Type 0 where
  pub filled : (r : ℕ) → on_ring r ring ≡ is_some (slot slots r)
  pub count : count_by is_some slots ≡ length ring
  pub within : length slots ≤ capacity
  pub numbers : limit ≡ length slots
  pub some : 1 ≤ capacity
