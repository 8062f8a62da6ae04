-- What stays while one row changes in both of its places.
use Rattle.std.proofs.Common.{◌≡◌, ℕ, Bool, eqb, not, length, ◌<◌, [], ◌∷◌, ◌++◌, Option, Some, None, option_map, refl, List, false, arith, length-append, inl, inr}
use Rattle.std.proofs.lemmas.Grind.{common_steps}
use Rattle.std.proofs.lemmas.List.{length-map}
use Rattle.std.proofs.lemmas.List.Sums.{length-filter, count_by-le-length}
use Rattle.std.specs.FinMap as table
use Rattle.jc_rows.proofs.Laws.{get-put_same, get-put_other, get-put_cache, get-removed_cache, get-removed_absent, get-with_expiry_cache, with_expiry_is, same_rows}
use Rattle.jc_rows.proofs.Places.{place_tells}
use Rattle.jc_ops.proofs.StateNames.{Expiry, RowMap, with_expiry, Record, Cell, seek, has_row, without_row, stored, stored_cell, Kept, IsKeptIn}
use Rattle.jc_ops.proofs.Ties.{Tied-removed, Tied-pushed, Tied-stored, placed_at}

-- a row that is put where it stands changes nothing
same_row : (m : RowMap) (x : ℕ × List ℕ) (row : ℕ × Expiry) → table.get m x ≡ Some row → table.insert m x row ≡ m
same_row m x row found = same_rows _ _ (λ y. elim (place_tells y x) [
  | inl same ↦ rw (same.1, found) (get-put_same m x row)
  | inr other ↦ get-put_other m x row y other.1
])

-- an expiry that stays is none that is set
pub same_expiry : (m : RowMap) (x : ℕ × List ℕ) (e : Expiry) → option_map (λ row. row.1) (table.get m x) ≡ Some e → with_expiry m x e ≡ m
same_expiry m x e h = grind (arith, with_expiry_is, same_row)

module _ (m : RowMap) (k : Kept) (kept : IsKeptIn m k) (row : ℕ) where
  pub kept-removed : (it : Record) → seek row k.cells ≡ Some it → IsKeptIn (table.remove m (k.id, it.key)) (record k { cells = without_row row k.cells })
  kept-removed it there = record {
    tied = Tied-removed m k.id k.cells kept.tied it.key row it.expiry (placed_at m k.id k.cells row it kept.tied.placed there);
    within = omega (arith, kept.within, length-filter (λ (c : Cell). not (eqb c.row row)) k.cells, count_by-le-length (λ (c : Cell). not (eqb c.row row)) k.cells);
  }

  pub kept-pushed : (it : Record) (bit : Bool) → has_row row k.cells ≡ false → table.get m (k.id, it.key) ≡ None → length k.cells < k.config.capacity → IsKeptIn (table.insert m (k.id, it.key) (row, it.expiry)) (record k { cells = k.cells ++ record { row = row; held = it; bit = bit } ∷ [] })
  kept-pushed it bit fresh absent less = record {
    tied = Tied-pushed m k.id k.cells kept.tied row it bit fresh absent;
    within = omega (arith, less, length-append {A = Cell});
  }

  pub kept-stored : (it : Record) → option_map (λ held. held.key) (seek row k.cells) ≡ Some it.key → IsKeptIn (with_expiry m (k.id, it.key) it.expiry) (record k { cells = stored row it k.cells })
  kept-stored it there = by (seek row k.cells) refl there
    where
      by : (o : Option Record) → seek row k.cells ≡ o → option_map (λ held. held.key) o ≡ Some it.key → IsKeptIn (with_expiry m (k.id, it.key) it.expiry) (record k { cells = stored row it k.cells })
      by None there key = cc
      by (Some before) there key =
          let same : it.key ≡ before.key = cc in
          let placed : table.get m (k.id, it.key) ≡ Some (row, before.expiry) = rw same (placed_at m k.id k.cells row before kept.tied.placed there) in record {
            tied = rw (with_expiry_is m (k.id, it.key) row before.expiry it.expiry placed) (Tied-stored m k.id k.cells kept.tied row before.expiry it placed);
            within = omega (arith, kept.within, length-map k.cells (stored_cell row it));
          }

pub ruleset change_laws = (common_steps, kept-removed, kept-pushed, kept-stored, get-put_cache, get-removed_cache, get-with_expiry_cache)
