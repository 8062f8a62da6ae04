-- A walk along the ring, from one row to the row behind it.
use Rattle.std.proofs.Common.{◌≡◌, ◌<◌, ℕ, true, eqb, cond, List, [], ◌∷◌, ◌++◌, length, map, Option, Some, None, refl, ap, arith, length-append, append_assoc}
use Rattle.std.proofs.lemmas.Grind.{common_steps}
use Rattle.std.proofs.lemmas.List.{length-map}
use Rattle.jc_ops.proofs.StateNames.{Item, Record, Cell, seek, has_row, row_after, Distinct, item_of, items_of}

abbrev pub keys_of : List Cell → List (List ℕ)
keys_of cells = map (λ x. x.key) (items_of cells)

-- the rows from this one on
abbrev pub rows_from : Option ℕ → List Cell → List Cell
rows_from None cells = []
rows_from (Some r) [] = []
rows_from (Some r) (c ∷ cs) = cond (eqb c.row r) (c ∷ cs) (rows_from (Some r) cs)

-- The walk stands before this row, if it is not at the end, and has the keys of those before it.
pub record WalkedTo (cells : List Cell) (keys : List (List ℕ)) (next : Option ℕ) : Type 0 where
  pub all : keys ++ keys_of (rows_from next cells) ≡ keys_of cells
  pub on : (r : ℕ) → next ≡ Some r → has_row r cells ≡ true

pub after_on : (r : ℕ) (cells : List Cell) (q : ℕ) → row_after r cells ≡ Some q → has_row q cells ≡ true
after_on r [] q e = cc
after_on r (c ∷ []) q e = grind (arith, common_steps)
after_on r (c ∷ d ∷ cs) q e = grind (arith, common_steps, after_on r (d ∷ cs) q)

-- a row of another number before them makes no difference
pub from_behind : (c : Cell) (cells : List Cell) (next : Option ℕ) → Distinct (c ∷ cells) → ((q : ℕ) → next ≡ Some q → has_row q cells ≡ true) → rows_from next (c ∷ cells) ≡ rows_from next cells
from_behind c cells None d on = refl
from_behind c cells (Some q) d on = grind (arith, common_steps, d.0, on q refl)

row_passed : (cells : List Cell) (r : ℕ) (it : Record) → Distinct cells → seek r cells ≡ Some it → keys_of (rows_from (Some r) cells) ≡ it.key ∷ keys_of (rows_from (row_after r cells) cells)
row_passed [] r it d e = cc
row_passed (c ∷ []) r it d e = grind (arith, common_steps)
row_passed (c ∷ b ∷ cs) r it d e =
    grind (arith, common_steps, from_behind c (b ∷ cs) (row_after r (b ∷ cs)) d (after_on r (b ∷ cs)), row_passed (b ∷ cs) r it d.1, d.0)

module _ (cells : List Cell) (keys : List (List ℕ)) (r : ℕ) (it : Record) (d : Distinct cells) (w : WalkedTo cells keys (Some r)) (e : seek r cells ≡ Some it) where
  -- the walk passes the row
  pub walk_goes_on : WalkedTo cells (keys ++ it.key ∷ []) (row_after r cells)
  walk_goes_on = record { all = rw append_assoc (rw (row_passed cells r it d e) at w.all); on = after_on r cells }

  pub walk_is_shorter : length keys < length cells
  walk_is_shorter =
      let all : length (keys ++ it.key ∷ keys_of (rows_from (row_after r cells) cells)) ≡ length (keys_of cells) = ap length (rw (row_passed cells r it d e) at w.all) in
      omega (arith, all, length-append keys (it.key ∷ keys_of (rows_from (row_after r cells) cells)), length-map cells item_of, length-map (items_of cells) (λ (x : Item). x.key))
