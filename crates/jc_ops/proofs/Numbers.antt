-- Rows by their numbers.
use Rattle.std.proofs.Common.{◌≡◌, ◌≤◌, ℕ, Bool, eqb, cond, List, [], ◌∷◌, count_by, Option, None, is_some, refl, arith}
use Rattle.std.proofs.lemmas.Grind.{common_steps}
use Rattle.std.proofs.lemmas.List.{get_or_past}
use Rattle.jc_ops.proofs.StateNames.{on_ring, Record, Cell, slot, cells_of, has_row, seek, IsShelf, Distinct, items_of}
use Rattle.jc_ops.proofs.Cells.{has_row-seek}
use Rattle.jc_ops.proofs.Shelves.{has_row-cells, seek-cells}
use Rattle.jc_ops.specs.Kept.{numbers_of, row_numbered}

-- a row is in the slot of its number
pub seek-slot : (slots : List (Option Record)) (ring : List (ℕ × Bool)) (r : ℕ) → on_ring r ring ≡ is_some (slot slots r) → seek r (cells_of slots ring) ≡ slot slots r
seek-slot slots ring r filled = grind (arith, common_steps, filled, has_row-cells r slots ring, has_row-seek r (cells_of slots ring), seek-cells r slots ring)

pub seek-past : (slots : List (Option Record)) (ring : List (ℕ × Bool)) (limit capacity : ℕ) → IsShelf slots ring limit capacity → (n : ℕ) → capacity ≤ n → seek n (cells_of slots ring) ≡ None
seek-past slots ring limit capacity is n past = grind (arith, common_steps, is.within, seek-slot slots ring n (is.filled n), get_or_past slots n None)

pub ruleset number_laws = (common_steps, seek-slot, seek-past)

-- by numbers and items it is the same row
pub seek-numbered : (n : ℕ) (cs : List Cell) → seek n cs ≡ row_numbered n (numbers_of cs) (items_of cs)
seek-numbered n [] = refl
seek-numbered n (c ∷ cs) = grind (arith, common_steps, seek-numbered n cs)

counted : (n : ℕ) (cs : List Cell) → Distinct cs → count_by (eqb n) (numbers_of cs) ≡ cond (has_row n cs) 1 0
counted n [] d = refl
counted n (c ∷ cs) d = grind (arith, common_steps, d.0, counted n cs d.1)

pub apart : (cs : List Cell) → Distinct cs → (n : ℕ) → count_by (eqb n) (numbers_of cs) ≤ 1
apart cs d n = grind (arith, common_steps, counted n cs d)
