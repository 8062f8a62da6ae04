-- What is known of a key's row, by the table.
use Rattle.std.proofs.Common.{◌≡◌, ℕ, true, List, [], ◌∷◌, Option, Some, None, option_map, refl, sym, subst, arith}
use Rattle.std.proofs.lemmas.Grind.{common_steps}
use Rattle.std.proofs.lemmas.Slice.Eq.{bytes_eq-Decides}
use Rattle.std.specs.FinMap as table
use Rattle.jc_ops.proofs.StateNames.{Expiry, Item, row_of, without, with_row, RowMap, Record, Cell, seek, without_row, stored, Placed, Kept, items_of, record_of, IsTied, IsRow, FoundRow}
use Rattle.jc_ops.proofs.Ties.{RowIsKey, row_is_key, row_there, placed_at}

-- The rows as items.

row_of-items : (r : ℕ) (k : List ℕ) (cs : List Cell) → RowIsKey r k cs → option_map record_of (row_of k (items_of cs)) ≡ seek r cs
row_of-items r k [] s = refl
row_of-items r k (c ∷ cs) s = grind (arith, common_steps, s.0, row_of-items r k cs s.1)

pub row_of-absent : (m : RowMap) (id : ℕ) (k : List ℕ) (cs : List Cell) → Placed m id cs → table.get m (id, k) ≡ None → row_of k (items_of cs) ≡ None
row_of-absent m id k [] p g = refl
row_of-absent m id k (c ∷ cs) p g = grind (arith, common_steps, p.0, g, bytes_eq-Decides c.held.key k, row_of-absent m id k cs p.1 g)

items_of-without : (r : ℕ) (k : List ℕ) (cs : List Cell) → RowIsKey r k cs → items_of (without_row r cs) ≡ without k (items_of cs)
items_of-without r k [] s = refl
items_of-without r k (c ∷ cs) s = grind (arith, common_steps, s.0, items_of-without r k cs s.1)

-- a record as it stands once it was used
abbrev pub used_item : Record → Item
used_item it = record { key = it.key; value = it.value; expiry = it.expiry; used = true }

items_of-stored : (r : ℕ) (it : Record) (cs : List Cell) → RowIsKey r it.key cs → items_of (stored r it cs) ≡ with_row (used_item it) (items_of cs)
items_of-stored r it [] s = refl
items_of-stored r it (c ∷ cs) s = grind (arith, common_steps, s.0, items_of-stored r it cs s.1)

-- A key's row.

found_both : (o : Option Item) (p : Option Record) (k : List ℕ) → option_map record_of o ≡ p → option_map (λ it. it.key) p ≡ Some k → (x : Item) × (o ≡ Some x) × (x.key ≡ k) × (p ≡ Some (record_of x))
found_both None p k e h = cc
found_both (Some x) p k e h = (x, refl, cc, sym e)

pub is_row : (m : RowMap) (k : List ℕ) (s : Kept) (r : ℕ) (e : Expiry) → IsTied m s → table.get m (s.id, k) ≡ Some (r, e) → (x : Item) × IsRow k s r x
is_row m k s r e t g =
    let x = found_both (row_of k (items_of s.cells)) (seek r s.cells) k (row_of-items r k s.cells (row_is_key m s.id s.cells t k r e g)) (t.found k r e g) in
    (x.0, record { found = x.1; key_is = x.2; there = x.3; on = row_there m s.id s.cells k r e t g })

-- where the table has a key's row
pub found_row : (m : RowMap) (k : List ℕ) (s : Kept) (o : Option ℕ) → IsTied m s → o ≡ option_map (λ p. p.0) (table.get m (s.id, k)) → FoundRow k s o
found_row m k s o t h = subst (FoundRow k s) (sym h) (by (table.get m (s.id, k)) refl)
  where
    by : (p : Option (ℕ × Expiry)) → table.get m (s.id, k) ≡ p → FoundRow k s (option_map (λ q. q.0) p)
    by None g = row_of-absent m s.id k s.cells t.placed g
    by (Some p) g = is_row m k s p.0 p.1 t g

-- a key with no row has none in the table
pub absent_there : (m : RowMap) (k : List ℕ) (s : Kept) → IsTied m s → row_of k (items_of s.cells) ≡ None → table.get m (s.id, k) ≡ None
absent_there m k s t none = elim (table.get m (s.id, k)) as (λ o. table.get m (s.id, k) ≡ o → o ≡ None) [
  | None ↦ λ g. refl
  | Some p ↦ λ g. (let x = is_row m k s p.0 p.1 t g in absurd (cc (x.1.found)))
] refl

pub placed_there : (m : RowMap) (k : List ℕ) (s : Kept) (r : ℕ) (x : Item) → IsTied m s → IsRow k s r x → table.get m (s.id, k) ≡ Some (r, x.expiry)
placed_there m k s r x t is = rw (← is.key_is) (placed_at m s.id s.cells r (record_of x) t.placed is.there)

-- the item that the key has is that row's
pub same_row : (k : List ℕ) (s : Kept) (r : ℕ) (x y : Item) → IsRow k s r x → row_of k (items_of s.cells) ≡ Some y → IsRow k s r y
same_row k s r x y is e = let same : x ≡ y = cc in rw same at is

-- What the items come to where a row changes.

key_there : (m : RowMap) (s : Kept) (r : ℕ) (it : Record) → IsTied m s → seek r s.cells ≡ Some it → RowIsKey r it.key s.cells
key_there m s r it t there = row_is_key m s.id s.cells t it.key r it.expiry (placed_at m s.id s.cells r it t.placed there)

pub items-without : (m : RowMap) (s : Kept) (r : ℕ) (it : Record) → IsTied m s → seek r s.cells ≡ Some it → items_of (without_row r s.cells) ≡ without it.key (items_of s.cells)
items-without m s r it t there = items_of-without r it.key s.cells (key_there m s r it t there)

pub items-stored : (m : RowMap) (s : Kept) (r : ℕ) (before it : Record) → IsTied m s → seek r s.cells ≡ Some before → it.key ≡ before.key → items_of (stored r it s.cells) ≡ with_row (used_item it) (items_of s.cells)
items-stored m s r before it t there same = items_of-stored r it s.cells (rw same (key_there m s r before t there))
