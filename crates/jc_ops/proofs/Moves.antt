-- The rows of a ring, taken to another one by one.
use Rattle.std.proofs.Common.{◌≡◌, ℕ, Bool, true, false, List, [], ◌∷◌, ◌++◌, Some, refl, arith, append_assoc}
use Rattle.std.proofs.lemmas.Grind.{common_steps}
use Rattle.std.proofs.lemmas.Bool.Decides.{nat_tests}
use Rattle.jc_ring.specs.Ring.{on_ring, first, ring_without, ring_touched, rows_apart}
use Rattle.jc_ring.proofs.Laws.{on_ring-append, without-off}

pub on-last : (r : ℕ) (b : Bool) (ps : List (ℕ × Bool)) → on_ring r (ps ++ (r, b) ∷ []) ≡ true
on-last r b [] = grind (arith, common_steps, nat_tests)
on-last r b (p ∷ ps) = grind (arith, common_steps, on-last r b ps)

pub touched-last : (r : ℕ) (ps : List (ℕ × Bool)) → on_ring r ps ≡ false → ring_touched r (ps ++ (r, false) ∷ []) ≡ ps ++ (r, true) ∷ []
touched-last r [] off = grind (arith, common_steps, nat_tests)
touched-last r (p ∷ ps) off = grind (arith, common_steps, touched-last r ps)

off_before : (xs : List (ℕ × Bool)) (p : ℕ × Bool) (ps : List (ℕ × Bool)) → rows_apart (xs ++ p ∷ ps) ≡ true → on_ring p.0 xs ≡ false
off_before [] p ps apart = refl
off_before (x ∷ xs) p ps apart = grind (arith, common_steps, nat_tests, on_ring-append x.0 xs (p ∷ ps), off_before xs p ps)

off_behind : (xs : List (ℕ × Bool)) (p : ℕ × Bool) (ps : List (ℕ × Bool)) → rows_apart (xs ++ p ∷ ps) ≡ true → on_ring p.0 ps ≡ false
off_behind [] p ps apart = grind (arith, common_steps, apart)
off_behind (x ∷ xs) p ps apart = off_behind xs p ps (grind (arith, common_steps, apart))

on_all : (xs : List (ℕ × Bool)) (p : ℕ × Bool) (ps : List (ℕ × Bool)) → on_ring p.0 (xs ++ p ∷ ps) ≡ true
on_all xs p ps = grind (arith, common_steps, nat_tests, on_ring-append p.0 xs (p ∷ ps))

without_first : (p : ℕ × Bool) (ps : List (ℕ × Bool)) → on_ring p.0 ps ≡ false → ring_without p.0 (p ∷ ps) ≡ ps
without_first p ps off = grind (arith, common_steps, nat_tests, without-off ps p.0)

-- One row more has moved.
pub record RowMoves (xs ps all : List (ℕ × Bool)) (p : ℕ × Bool) : Type 0 where
  pub absent : on_ring p.0 xs ≡ false
  pub on : on_ring p.0 all ≡ true
  pub left : (xs ++ p ∷ []) ++ ring_without p.0 ps ≡ all

pub row_moves : (xs ps all : List (ℕ × Bool)) (p : ℕ × Bool) → rows_apart all ≡ true → xs ++ ps ≡ all → first ps ≡ Some p → RowMoves xs ps all p
row_moves xs [] all p apart is at = absurd cc
row_moves xs (q ∷ ps) all p apart is at =
    let same : q ≡ p = cc in
    rw (← same, ← is) (moves (rw (← is) at apart))
  where
    moves : rows_apart (xs ++ q ∷ ps) ≡ true → RowMoves xs (q ∷ ps) (xs ++ q ∷ ps) q
    moves apart' = record {
      absent = off_before xs q ps apart';
      on = on_all xs q ps;
      left = rw (without_first q ps (off_behind xs q ps apart'), append_assoc) refl;
    }
