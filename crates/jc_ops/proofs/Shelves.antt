-- Facts on rings and shelves.
use Rattle.std.proofs.Common.{◌≡◌, ◌<◌, ◌+◌, ℕ, Bool, true, false, eqb, cond, List, [], ◌∷◌, ◌++◌, length, Option, Some, None, is_some, set, refl, arith, length-append}
use Rattle.std.proofs.lemmas.Grind.{common_steps}
use Rattle.std.proofs.lemmas.List.{get_or-set_same, get_or-set_other, length-map}
use Rattle.jc_ring.specs.Ring.{row_behind, bit_of, ring_without, bit_set}
use Rattle.jc_ring.proofs.Laws.{on_ring-append, on_ring-turned, on_ring-without, on_ring-touched, length-turned, length-touched}
use Rattle.jc_ops.proofs.StateNames.{bit_in, row_after, on_ring, ring_touched, Record, new_cell, slot, cells_of, held_of, has_row, seek, without_row, IsShelf, stored}
use Rattle.jc_ops.proofs.Vacancies.{within_filled}

pub has_row-cells : (r : ℕ) (slots : List (Option Record)) (ring : List (ℕ × Bool)) → has_row r (cells_of slots ring) ≡ on_ring r ring
has_row-cells r slots [] = refl
has_row-cells r slots (p ∷ ps) = rw (has_row-cells r slots ps)

pub seek-cells : (r : ℕ) (slots : List (Option Record)) (ring : List (ℕ × Bool)) → on_ring r ring ≡ true → seek r (cells_of slots ring) ≡ Some (held_of (slot slots r))
seek-cells r slots [] e = cc
seek-cells r slots (p ∷ ps) e = grind (arith, common_steps, seek-cells r slots ps)

pub row_after-cells : (slots : List (Option Record)) (r : ℕ) (ps : List (ℕ × Bool)) → row_behind r ps ≡ row_after r (cells_of slots ps)
row_after-cells slots r [] = refl
row_after-cells slots r (p ∷ []) = refl
row_after-cells slots r (p ∷ q ∷ ps) = rw (row_after-cells slots r (q ∷ ps))

pub bit-cells : (slots : List (Option Record)) (r : ℕ) (ps : List (ℕ × Bool)) → bit_of r ps ≡ bit_in r (cells_of slots ps)
bit-cells slots r [] = refl
bit-cells slots r (p ∷ ps) = rw (bit-cells slots r ps)

-- What the cells come to where a slot changes, and the ring with it.

pub push-cells : (r : ℕ) (it : Record) (slots : List (Option Record)) (ring : List (ℕ × Bool)) → r < length slots → on_ring r ring ≡ false → cells_of (set slots r (Some it)) (ring ++ (r, false) ∷ []) ≡ cells_of slots ring ++ new_cell r it ∷ []
push-cells r it slots [] h off = grind (arith, common_steps, get_or-set_same slots r (Some it) None h)
push-cells r it slots (p ∷ ps) h off = grind (arith, common_steps, push-cells r it slots ps h)

pub take-cells : (r : ℕ) (slots : List (Option Record)) (ring : List (ℕ × Bool)) → is_some (slot slots r) ≡ true → cells_of (set slots r None) (ring_without r ring) ≡ without_row r (cells_of slots ring)
take-cells r slots [] there = refl
take-cells r slots (p ∷ ps) there = grind (arith, common_steps, get_or-set_other slots r p.0 None None, take-cells r slots ps there)

pub store-cells : (r : ℕ) (it : Record) (slots : List (Option Record)) (ring : List (ℕ × Bool)) → is_some (slot slots r) ≡ true → cells_of (set slots r (Some it)) (ring_touched r ring) ≡ stored r it (cells_of slots ring)
store-cells r it slots [] there = refl
store-cells r it slots (p ∷ ps) there =
    grind (arith, common_steps, get_or-set_same slots r (Some it) None (within_filled slots r there), get_or-set_other slots r p.0 (Some it) None, store-cells r it slots ps there)

module _ (slots : List (Option Record)) (ring : List (ℕ × Bool)) (limit capacity r : ℕ) (is : IsShelf slots ring limit capacity) where
  -- a slot changes, and the ring with it
  shelf-set : (after : List (ℕ × Bool)) (x : Option Record) → r < length slots → ((s : ℕ) → on_ring s after ≡ cond (eqb s r) (is_some x) (on_ring s ring))
      → length after + cond (is_some (slot slots r)) 1 0 ≡ length ring + cond (is_some x) 1 0 → IsShelf (set slots r x) after limit capacity
  shelf-set after x h on many = grind (arith, common_steps)

  pub push-shelf : (it : Record) → r < length slots → slot slots r ≡ None → IsShelf (set slots r (Some it)) (ring ++ (r, false) ∷ []) limit capacity
  push-shelf it h e = shelf-set _ (Some it) h (λ s. grind (arith, common_steps, on_ring-append s ring ((r, false) ∷ []))) (rw e (omega (arith, length-append ring ((r, false) ∷ []))))

  pub take-shelf : is_some (slot slots r) ≡ true → length (ring_without r ring) + 1 ≡ length ring → IsShelf (set slots r None) (ring_without r ring) limit capacity
  take-shelf there one = shelf-set _ None (within_filled slots r there) (λ s. grind (arith, common_steps, on_ring-without s r ring)) (rw there (omega arith))

  pub store-shelf : (it : Record) → is_some (slot slots r) ≡ true → IsShelf (set slots r (Some it)) (ring_touched r ring) limit capacity
  store-shelf it there = shelf-set _ (Some it) (within_filled slots r there) (λ s. grind (arith, common_steps, is.filled s, there, on_ring-touched s r ring)) (rw (there, length-map ring (bit_set r)))

pub ruleset shelf_laws = (common_steps, on_ring-turned, on_ring-append, on_ring-without, on_ring-touched, length-turned, length-touched, has_row-cells, seek-cells, row_after-cells, bit-cells, push-cells, take-cells, store-cells, within_filled)
