-- What stays where a cache comes to have memory for more rows.
use Rattle.std.proofs.Common.{◌≡◌, ◌<◌, ◌≤◌, ◌+◌, ℕ, Bool, true, zero, suc, List, [], ◌∷◌, ◌++◌, length, replicate, Option, None, is_some, count_by, refl, arith, length-append}
use Rattle.std.proofs.lemmas.Grind.{common_steps}
use Rattle.std.proofs.lemmas.List.{length-replicate}
use Rattle.std.proofs.lemmas.List.Sums.{count_by-le-length}
use Rattle.jc_ring.specs.Ring.{rows_apart}
use Rattle.jc_ops.proofs.StateNames.{on_ring, Record, slot, cells_of, IsShelf, Distinct}
use Rattle.jc_ops.proofs.Shelves.{has_row-cells}
use Rattle.jc_ops.proofs.Vacancies.{within_filled}

-- Vacant slots more.

pub slot-none : (n r : ℕ) → slot (replicate n None) r ≡ None
slot-none zero r = refl
slot-none (suc n) zero = refl
slot-none (suc n) (suc r) = slot-none n r

pub slot-grown : (slots : List (Option Record)) (n r : ℕ) → slot (slots ++ replicate n None) r ≡ slot slots r
slot-grown [] n r = slot-none n r
slot-grown (x ∷ xs) n zero = refl
slot-grown (x ∷ xs) n (suc r) = slot-grown xs n r

pub cells-grown : (slots : List (Option Record)) (n : ℕ) (ring : List (ℕ × Bool)) → cells_of (slots ++ replicate n None) ring ≡ cells_of slots ring
cells-grown slots n [] = refl
cells-grown slots n (p ∷ ps) = rw (slot-grown slots n p.0, cells-grown slots n ps)

pub none_filled : (n : ℕ) → count_by is_some (replicate {A = Option Record} n None) ≡ 0
none_filled zero = refl
none_filled (suc n) = none_filled n

pub count-grown : (slots : List (Option Record)) (n : ℕ) → count_by is_some (slots ++ replicate n None) ≡ count_by is_some slots
count-grown [] n = none_filled n
count-grown (x ∷ xs) n = grind (arith, common_steps, count-grown xs n)

pub apart-cells : (slots : List (Option Record)) (ring : List (ℕ × Bool)) → Distinct (cells_of slots ring) → rows_apart ring ≡ true
apart-cells slots [] d = refl
apart-cells slots (p ∷ ps) d = grind (arith, common_steps, has_row-cells p.0 slots ps, d.0, apart-cells slots ps d.1)

module _ (slots : List (Option Record)) (ring : List (ℕ × Bool)) (limit capacity : ℕ) (is : IsShelf slots ring limit capacity) where
  pub row_within : (r : ℕ) → on_ring r ring ≡ true → r < length slots
  row_within r on = within_filled slots r (grind (arith, common_steps, is.filled r))

  pub ring_within : length ring ≤ length slots
  ring_within = omega (arith, is.count, count_by-le-length is_some slots)

  pub shelf-grown : (n : ℕ) → length slots + n ≤ capacity → IsShelf (slots ++ replicate n None) ring (length slots + n) capacity
  shelf-grown n within = record {
    filled = λ r. rw (slot-grown slots n r) (is.filled r);
    count = rw (count-grown slots n) is.count;
    within = omega (arith, within, length-append slots (replicate n None), length-replicate {A = Option Record} n None);
    numbers = omega (arith, length-append slots (replicate n None), length-replicate {A = Option Record} n None);
    some = is.some;
  }

pub ruleset growing_laws = (cells-grown, shelf-grown, row_within, ring_within, apart-cells)
