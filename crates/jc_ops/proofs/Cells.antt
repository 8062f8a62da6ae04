-- Rows in a list of cells: looking one up, taking one out, storing one anew.
use Rattle.std.proofs.Common.{◌≡◌, ℕ, true, false, eqb, ◌||◌, not, cond, List, [], ◌∷◌, ◌++◌, length, None, option_map, is_some, refl, arith}
use Rattle.std.proofs.lemmas.Grind.{common_steps}
use Rattle.jc_ops.proofs.StateNames.{Record, Cell, seek, has_row, without_row, cleared, turned_cells, stored, Distinct}

pub has_row-seek : (r : ℕ) (cs : List Cell) → has_row r cs ≡ is_some (seek r cs)
has_row-seek r [] = refl
has_row-seek r (c ∷ cs) = grind (arith, common_steps, has_row-seek r cs)

pub has_row-append : (r : ℕ) (xs ys : List Cell) → has_row r (xs ++ ys) ≡ (has_row r xs || has_row r ys)
has_row-append r [] ys = refl
has_row-append r (x ∷ xs) ys = grind (arith, common_steps, has_row-append r xs ys)

pub seek-append : (r : ℕ) (xs ys : List Cell) → seek r (xs ++ ys) ≡ cond (has_row r xs) (seek r xs) (seek r ys)
seek-append r [] ys = refl
seek-append r (x ∷ xs) ys = grind (arith, common_steps, seek-append r xs ys)

pub Distinct-push : (xs : List Cell) (c : Cell) → Distinct xs → has_row c.row xs ≡ false → Distinct (xs ++ c ∷ [])
Distinct-push [] c d e = (refl, tt)
Distinct-push (x ∷ xs) c d e = (grind (arith, common_steps, has_row-append x.row xs (c ∷ []), d.0), Distinct-push xs c d.1 (grind (arith, common_steps)))

-- Without a row.

pub without_row-off : (r : ℕ) (xs : List Cell) → has_row r xs ≡ false → without_row r xs ≡ xs
without_row-off r [] e = refl
without_row-off r (x ∷ xs) e = grind (arith, common_steps, without_row-off r xs)

pub seek-without : (s r : ℕ) (cs : List Cell) → seek s (without_row r cs) ≡ cond (eqb s r) None (seek s cs)
seek-without s r [] = grind (arith, common_steps)
seek-without s r (c ∷ cs) = grind (arith, common_steps, seek-without s r cs)

pub Distinct-without : (r : ℕ) (cs : List Cell) → Distinct cs → Distinct (without_row r cs)
Distinct-without r [] d = tt
Distinct-without r (c ∷ cs) d = elim (eqb c.row r) as (λ b. Distinct (cond (not b) (c ∷ without_row r cs) (without_row r cs))) [
  | true ↦ Distinct-without r cs d.1
  | false ↦ (grind (arith, common_steps, has_row-seek c.row cs, has_row-seek c.row (without_row r cs), seek-without c.row r cs, d.0), Distinct-without r cs d.1)
]

-- With the first row last.

pub seek-turned : (r : ℕ) (c : Cell) (cs : List Cell) → has_row c.row cs ≡ false → seek r (cs ++ cleared c ∷ []) ≡ seek r (c ∷ cs)
seek-turned r c cs d = grind (arith, common_steps, seek-append r cs (cleared c ∷ []), has_row-seek r cs)

pub length-turned_cells : (cs : List Cell) → length (turned_cells cs) ≡ length cs
length-turned_cells [] = refl
length-turned_cells (c ∷ cs) = grind (arith, common_steps)

-- With a row stored anew.

pub seek-stored : (s r : ℕ) (it : Record) (cs : List Cell) → seek s (stored r it cs) ≡ cond (eqb s r) (option_map (λ h. it) (seek s cs)) (seek s cs)
seek-stored s r it [] = grind (arith, common_steps)
seek-stored s r it (c ∷ cs) = grind (arith, common_steps, seek-stored s r it cs)

pub Distinct-stored : (r : ℕ) (it : Record) (cs : List Cell) → Distinct cs → Distinct (stored r it cs)
Distinct-stored r it [] d = tt
Distinct-stored r it (c ∷ cs) d = (grind (arith, common_steps, has_row-seek c.row cs, has_row-seek c.row (stored r it cs), seek-stored c.row r it cs, d.0), Distinct-stored r it cs d.1)
