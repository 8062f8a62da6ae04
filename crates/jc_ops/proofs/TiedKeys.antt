-- The rows of a cache have different keys.
use Rattle.std.proofs.Common.{◌≡◌, ℕ, false, List, [], ◌∷◌, Some, arith}
use Rattle.std.proofs.lemmas.Grind.{common_steps}
use Rattle.std.specs.FinMap as table
use Rattle.jc_model.specs.Sound.{LacksKey, HasDistinctKeys}
use Rattle.jc_ops.proofs.StateNames.{Expiry, RowMap, Cell, has_row, Distinct, Placed, Tied, items_of}

lacks_key : (m : RowMap) (id row : ℕ) (k : List ℕ) (e : Expiry) (cs : List Cell) → table.get m (id, k) ≡ Some (row, e) → has_row row cs ≡ false → Placed m id cs → LacksKey k (items_of cs)
lacks_key m id row k e [] at off p = tt
lacks_key m id row k e (d ∷ ds) at off p = (λ same. grind (arith, common_steps, p.0), lacks_key m id row k e ds at (grind (arith, common_steps)) p.1)

distinct_keys : (m : RowMap) (id : ℕ) (cs : List Cell) → Distinct cs → Placed m id cs → HasDistinctKeys (items_of cs)
distinct_keys m id [] d p = tt
distinct_keys m id (c ∷ cs) d p = (lacks_key m id c.row c.held.key c.held.expiry cs p.0 d.0 p.1, distinct_keys m id cs d.1 p.1)

pub tied_keys : (m : RowMap) (id : ℕ) (cs : List Cell) → Tied m id cs → HasDistinctKeys (items_of cs)
tied_keys m id cs t = distinct_keys m id cs t.distinct t.placed
