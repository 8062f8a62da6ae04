-- Rows as they are saved: read along the ring, and added again.
use Rattle.std.proofs.Common.{◌≡◌, ◌<◌, ℕ, true, false, List, [], ◌∷◌, ◌++◌, length, Option, Some, ap, arith, length-append, append_assoc}
use Rattle.std.proofs.lemmas.Grind.{common_steps}
use Rattle.std.proofs.lemmas.Bool.Decides.{nat_tests}
use Rattle.std.proofs.lemmas.List.{length-map}
use Rattle.jc_ops.proofs.StateNames.{Item, Record, Cell, seek, bit_in, saved_cell, has_row, row_after, new_cell, stored, Distinct, item_of, item_with, items_of}
use Rattle.jc_ops.proofs.Walk.{rows_from, after_on, from_behind}

-- A row that was just added.

pub stored-pushed : (r : ℕ) (it held : Record) (cs : List Cell) → has_row r cs ≡ false → stored r it (cs ++ new_cell r held ∷ []) ≡ cs ++ saved_cell r it true ∷ []
stored-pushed r it held [] off = grind (arith, common_steps, nat_tests)
stored-pushed r it held (c ∷ cs) off = grind (arith, common_steps, nat_tests, stored-pushed r it held cs)

pub seek-pushed : (r : ℕ) (held : Record) (cs : List Cell) → has_row r cs ≡ false → seek r (cs ++ new_cell r held ∷ []) ≡ Some held
seek-pushed r held [] off = grind (arith, common_steps, nat_tests)
seek-pushed r held (c ∷ cs) off = grind (arith, common_steps, nat_tests, seek-pushed r held cs)

pub has_row-pushed : (r : ℕ) (held : Record) (cs : List Cell) → has_row r (cs ++ new_cell r held ∷ []) ≡ true
has_row-pushed r held [] = grind (arith, common_steps, nat_tests)
has_row-pushed r held (c ∷ cs) = grind (arith, common_steps, nat_tests, has_row-pushed r held cs)

pub ruleset saving_laws = (common_steps, stored-pushed, seek-pushed, has_row-pushed)

-- A walk along the ring.

-- It stands before this row, if it is not at the end, and has read the items of those before it.
pub record ReadTo (cells : List Cell) (items : List Item) (next : Option ℕ) : Type 0 where
  pub all : items ++ items_of (rows_from next cells) ≡ items_of cells
  pub on : (r : ℕ) → next ≡ Some r → has_row r cells ≡ true

item_passed : (cells : List Cell) (r : ℕ) (it : Record) → Distinct cells → seek r cells ≡ Some it → items_of (rows_from (Some r) cells) ≡ item_with it (bit_in r cells) ∷ items_of (rows_from (row_after r cells) cells)
item_passed [] r it d e = cc
item_passed (c ∷ []) r it d e = grind (arith, common_steps)
item_passed (c ∷ b ∷ cs) r it d e =
    grind (arith, common_steps, from_behind c (b ∷ cs) (row_after r (b ∷ cs)) d (after_on r (b ∷ cs)), item_passed (b ∷ cs) r it d.1, d.0)

module _ (cells : List Cell) (items : List Item) (r : ℕ) (it : Record) (d : Distinct cells) (w : ReadTo cells items (Some r)) (e : seek r cells ≡ Some it) where
  -- it reads the row
  pub read_goes_on : ReadTo cells (items ++ item_with it (bit_in r cells) ∷ []) (row_after r cells)
  read_goes_on = record { all = rw append_assoc (rw (item_passed cells r it d e) at w.all); on = after_on r cells }

  pub read_is_shorter : length items < length cells
  read_is_shorter =
      let all : length (items ++ item_with it (bit_in r cells) ∷ items_of (rows_from (row_after r cells) cells)) ≡ length (items_of cells) = ap length (rw (item_passed cells r it d e) at w.all) in
      omega (arith, all, length-append items (item_with it (bit_in r cells) ∷ items_of (rows_from (row_after r cells) cells)), length-map cells item_of)
