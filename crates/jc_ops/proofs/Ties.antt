-- The tie between the rows of a cache and the table, and what becomes of it with each change.
use Rattle.std.proofs.Common.{◌≡◌, ℕ, Bool, true, false, eqb, cond, List, [], ◌∷◌, ◌++◌, Some, None, option_map, sym, ◌∙◌, arith}
use Rattle.std.proofs.lemmas.Grind.{common_steps}
use Rattle.std.proofs.lemmas.Slice.Eq.{bytes_eq-Decides}
use Rattle.std.specs.Str.{bytes_eq}
use Rattle.std.specs.FinMap as table
use Rattle.jc_rows.proofs.Laws.{get-put_same, get-put_key, get-removed_same, get-removed_key}
use Rattle.jc_ops.proofs.StateNames.{Expiry, RowMap, Record, Cell, seek, has_row, without_row, turned_cells, cleared, stored, Each, IsThere, Placed, Distinct, Tied}
use Rattle.jc_ops.proofs.Cells.{has_row-seek, seek-append, Distinct-push, Distinct-without, Distinct-stored, seek-without, seek-turned, seek-stored}

-- The table at a key, after a change at another or the same.

get-put : (m : RowMap) (id : ℕ) (k q : List ℕ) (v : ℕ × Expiry) → table.get (table.insert m (id, k) v) (id, q) ≡ cond (bytes_eq q k) (Some v) (table.get m (id, q))
get-put m id k q v = grind (arith, common_steps, bytes_eq-Decides q k, get-put_same m (id, k) v, get-put_key m id k v id q)

get-removed : (m : RowMap) (id : ℕ) (k q : List ℕ) → table.get (table.remove m (id, k)) (id, q) ≡ cond (bytes_eq q k) None (table.get m (id, q))
get-removed m id k q = grind (arith, common_steps, bytes_eq-Decides q k, get-removed_same m (id, k), get-removed_key m id k id q)

-- What is true of each row that is found is true of all cells.

each : (P : ℕ → Record → Type 0) (cs : List Cell) → Distinct cs → ((r : ℕ) (it : Record) → seek r cs ≡ Some it → P r it) → Each P cs
each P [] d h = tt
each P (c ∷ cs) d h = (
  h c.row c.held (grind (arith, common_steps)),
  each P cs d.1 (λ r it e. h r it (grind (arith, common_steps, d.0, e, has_row-seek r cs))),
)

pub placed_at : (m : RowMap) (id : ℕ) (cs : List Cell) (r : ℕ) (it : Record) → Placed m id cs → seek r cs ≡ Some it → IsThere m id r it
placed_at m id [] r it p e = cc
placed_at m id (c ∷ cs) r it p e = grind (arith, common_steps, p.0, placed_at m id cs r it p.1)

pub row_there : (m : RowMap) (id : ℕ) (cs : List Cell) (k : List ℕ) (r : ℕ) (e : Expiry) → Tied m id cs → table.get m (id, k) ≡ Some (r, e) → has_row r cs ≡ true
row_there m id cs k r e t g = grind (arith, common_steps, has_row-seek r cs, t.found k r e g)

-- of these rows the one with the number r is the one with the key k
abbrev pub RowIsKey : ℕ → List ℕ → List Cell → Type 0
RowIsKey r k = Each (λ s it. eqb s r ≡ bytes_eq it.key k)

-- a table and rows are tied if each says what the other does
tied_by : (m : RowMap) (id : ℕ) (cs : List Cell) → Distinct cs → ((r : ℕ) (it : Record) → seek r cs ≡ Some it → IsThere m id r it)
    → ((k : List ℕ) (r : ℕ) (e : Expiry) → table.get m (id, k) ≡ Some (r, e) → option_map (λ it. it.key) (seek r cs) ≡ Some k) → Tied m id cs
tied_by m id cs d there found = record { distinct = d; placed = each _ cs d there; found = found }

module _ (m : RowMap) (id : ℕ) (cs : List Cell) (t : Tied m id cs) where
  at_place : (r : ℕ) (it : Record) → seek r cs ≡ Some it → IsThere m id r it
  at_place r it e = placed_at m id cs r it t.placed e

  same_as : (k : List ℕ) (r : ℕ) (e : Expiry) → table.get m (id, k) ≡ Some (r, e) → (s : ℕ) (it : Record) → seek s cs ≡ Some it → eqb s r ≡ bytes_eq it.key k
  same_as k r e g s it h = grind (arith, common_steps, bytes_eq-Decides it.key k, at_place s it h, t.found k r e g)

  pub row_is_key : (k : List ℕ) (r : ℕ) (e : Expiry) → table.get m (id, k) ≡ Some (r, e) → RowIsKey r k cs
  row_is_key k r e g = each _ cs t.distinct (same_as k r e g)

  -- A row is removed.
  pub Tied-removed : (k : List ℕ) (r : ℕ) (e : Expiry) → table.get m (id, k) ≡ Some (r, e) → Tied (table.remove m (id, k)) id (without_row r cs)
  Tied-removed k r e g = tied_by _ id _ (Distinct-without r cs t.distinct)
      (λ s it h. grind (arith, common_steps, seek-without s r cs, get-removed m id k it.key, same_as k r e g s it, at_place s it))
      (λ q s x h. grind (arith, common_steps, seek-without s r cs, get-removed m id k q, t.found q s x, same_as k r e g s))

  -- A row is added.
  pub Tied-pushed : (r : ℕ) (it : Record) (bit : Bool) → has_row r cs ≡ false → table.get m (id, it.key) ≡ None → Tied (table.insert m (id, it.key) (r, it.expiry)) id (cs ++ record { row = r; held = it; bit = bit } ∷ [])
  Tied-pushed r it bit off g =
      let c : Cell = record { row = r; held = it; bit = bit } in
      tied_by _ id _ (Distinct-push cs c t.distinct off)
      (λ s h e. grind (arith, common_steps, bytes_eq-Decides h.key it.key, seek-append s cs (c ∷ []), get-put m id it.key h.key (r, it.expiry), at_place s h))
      (λ q s x h. grind (arith, common_steps, bytes_eq-Decides q it.key, seek-append s cs (c ∷ []), has_row-seek s cs, get-put m id it.key q (r, it.expiry), t.found q s x))

  -- A row is stored anew.
  pub Tied-stored : (r : ℕ) (e : Expiry) (it : Record) → table.get m (id, it.key) ≡ Some (r, e) → Tied (table.insert m (id, it.key) (r, it.expiry)) id (stored r it cs)
  Tied-stored r e it g = tied_by _ id _ (Distinct-stored r it cs t.distinct)
      (λ s h b. grind (arith, common_steps, bytes_eq-Decides h.key it.key, seek-stored s r it cs, get-put m id it.key h.key (r, it.expiry), same_as it.key r e g s h, at_place s h))
      (λ q s x h. grind (arith, common_steps, bytes_eq-Decides q it.key, seek-stored s r it cs, get-put m id it.key q (r, it.expiry), t.found q s x, t.found it.key r e g, same_as it.key r e g s))

-- The first row goes last.

pub Tied-turned : (m : RowMap) (id : ℕ) (cs : List Cell) → Tied m id cs → Tied m id (turned_cells cs)
Tied-turned m id [] t = t
Tied-turned m id (c ∷ cs) t = tied_by m id _ (Distinct-push cs (cleared c) t.distinct.1 t.distinct.0)
    (λ r it e. at_place m id (c ∷ cs) t r it (sym (seek-turned r c cs t.distinct.0) ∙ e))
    (λ k r e g. rw (seek-turned r c cs t.distinct.0) (t.found k r e g))

-- The tie reads the cache's own part of the table.

pub Tied-same : (m n : RowMap) (id : ℕ) (cs : List Cell) → ((k : List ℕ) → table.get n (id, k) ≡ table.get m (id, k)) → Tied m id cs → Tied n id cs
Tied-same m n id cs s t = tied_by n id cs t.distinct (λ r it e. s it.key ∙ at_place m id cs t r it e) (λ k r e g. t.found k r e (sym (s k) ∙ g))
