-- Rows that go: expired ones, and the one where the hand stops.
use Rattle.std.proofs.Common.{◌≡◌, ℕ, Bool, true, false, ◌||◌, not, List, [], ◌∷◌, length, Option, Some, option_map, sym, ◌∙◌, arith}
use Rattle.std.proofs.lemmas.Grind.{common_steps}
use Rattle.std.proofs.lemmas.List.{map-append}
use Rattle.jc_model.proofs.Ring.{turned-pass}
use Rattle.jc_ops.proofs.StateNames.{Notice, Item, live, turned, one_more, expire, expired, with_room, first, Record, Cell, seek, has_row, held_of, without_row, turned_cells, Distinct, told_after, Kept, item_of, items_of, record_of, progress_of, IsVictim, Visited, IsWithout, progress_in}
use Rattle.jc_ops.proofs.Cells.{has_row-seek, without_row-off}

-- what a row holds that is there
pub held_there : (row : ℕ) (cells : List Cell) → has_row row cells ≡ true → (held : Record) × (seek row cells ≡ Some held)
held_there row cells on = grind (arith, common_steps, has_row-seek)

-- what the first row holds
pub held_first : (row : ℕ) (cells : List Cell) → option_map (λ c. c.row) (first cells) ≡ Some row → (held : Record) × (seek row cells ≡ Some held)
held_first row [] is = cc
held_first row (c ∷ cs) is = (c.held, grind (arith, common_steps))

-- an expired row that has gone with its notice
pub row_expired : (now row : ℕ) (v w : Visited) (x : Item) → IsWithout row v w → seek row v.cache.cells ≡ Some (record_of x) → w.noted.told ≡ told_after v.cache.config (expired x) v.noted.told
    → progress_in w ≡ expire v.cache.config now x (progress_in v)
row_expired now row v w x gone there told = grind (arith, common_steps, gone.kept, gone.left)

-- where the hand passes the first row, one turn brings it nearer to its stop
pub hand-passes : (now row : ℕ) (bit : Bool) (it : Record) (cs : List Cell) → ◌≡◌ {A = Option (ℕ × Bool)} (Some (row, bit)) (option_map (λ c. (c.row, c.bit)) (first cs)) → seek row cs ≡ Some it → (not (live now it.expiry) || not bit) ≡ false → turned now (items_of (turned_cells cs)) ≡ turned now (items_of cs)
hand-passes now row bit it [] h s e = cc
hand-passes now row bit it (c ∷ cs) h s e = grind (arith, common_steps, map-append, turned-pass)

-- the first row and those that are left without it are all
first_goes : (row : ℕ) (cs : List Cell) → Distinct cs → option_map (λ c. c.row) (first cs) ≡ Some row
    → (bit : Bool) × (items_of cs ≡ item_of (record { row = row; held = held_of (seek row cs); bit = bit }) ∷ items_of (without_row row cs))
first_goes row [] d e = cc
first_goes row (c ∷ cs) d e = (c.bit, grind (arith, common_steps, d.0, without_row-off row cs))

-- the cache was full, and the hand has stopped at this row
module _ (now : ℕ) (old new : Kept) (row : ℕ) (told : List Notice) (full : length old.cells ≡ old.config.capacity) (is : IsVictim now old new row) (d : Distinct new.cells) where
  shape : (bit : Bool) × (turned now (items_of old.cells) ≡ item_of (record { row = row; held = held_of (seek row new.cells); bit = bit }) ∷ items_of (without_row row new.cells))
  shape = let first = first_goes row new.cells d is.at in (first.0, sym is.hand ∙ first.1)

  -- a live row is evicted
  pub made-evicted : live now (held_of (seek row new.cells)).expiry ≡ true
      → progress_of (record new { cells = without_row row new.cells; counts = record new.counts { evictions = one_more new.counts.evictions } }) told ≡ with_room old.config now (progress_of old told)
  made-evicted l = grind (arith, common_steps, is.kept, shape.1, full)

  -- an expired row is told
  pub made-expired : live now (held_of (seek row new.cells)).expiry ≡ false
      → progress_of (record new { cells = without_row row new.cells }) (told_after new.config (expired (item_of record { row = row; held = held_of (seek row new.cells); bit = false })) told)
      ≡ with_room old.config now (progress_of old told)
  made-expired l = grind (arith, common_steps, is.kept, shape.1, full)
