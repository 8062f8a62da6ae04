-- The shared table, as the caches see it.
use Rattle.std.proofs.Common.{◌≡◌, ◌≢◌, ℕ, false, eqb, List, [], option_map, Option, Some, None, refl, sym, ap, subst, ◌∙◌, arith}
use Rattle.std.specs.FinMap as table
use Rattle.jc_engine.proofs.Names.{nat_tests, length-map, Expiry, Item, row_of, RowMap, Tied, SameElsewhere, Kept, IsTied, items_of, Slot, cache_in, Cache, expiry_in, IsAt}
use Rattle.jc_model.specs.Sound.{IsSound}
use Rattle.jc_ops.proofs.Ties.{Tied-same}
use Rattle.jc_ops.proofs.Found.{is_row, placed_there, row_of-absent}
use Rattle.jc_ops.proofs.TiedKeys.{tied_keys}

-- an id is as it was where the table has changed elsewhere
pub at_elsewhere : (m n : RowMap) (id other : ℕ) (found : Option Slot) → SameElsewhere id m n → other ≢ id → IsAt m other found → IsAt n other found
at_elsewhere m n id other found same differ is = by found is
  where
    apart : eqb other id ≡ false
    apart = grind (arith, nat_tests)

    by : (found : Option Slot) → IsAt m other found → IsAt n other found
    by None is = λ key. same other key apart ∙ is key
    by (Some cache) is = record {
      id_is = is.id_is;
      kept = record { tied = Tied-same m n cache.state.id cache.state.cells (λ key. same cache.state.id key (rw is.id_is apart)) is.kept.tied; within = is.kept.within };
      waits = is.waits;
    }

-- the table has a cache's rows with their expiries
expiry_of_row : (o : Option (ℕ × Expiry)) (m : RowMap) (k : Kept) (key : List ℕ) → IsTied m k → table.get m (k.id, key) ≡ o → option_map (λ row. row.1) o ≡ option_map (λ x. x.expiry) (row_of key (items_of k.cells))
expiry_of_row None m k key tied found = ap (option_map (λ (x : Item). x.expiry)) (sym (row_of-absent m k.id key k.cells tied.placed found))
expiry_of_row (Some (r, e)) m k key tied found =
    let row = is_row m key k r e tied found in
    let is : ◌≡◌ {A = Option (ℕ × Expiry)} (Some (r, e)) (Some (r, row.0.expiry)) = sym found ∙ placed_there m key k r row.0 tied row.1 in
    ap (option_map (λ (p : ℕ × Expiry). p.1)) is ∙ ap (option_map (λ (x : Item). x.expiry)) (sym row.1.found)

pub expiry_shown : (m : RowMap) (id : ℕ) (found : Option Slot) (key : List ℕ) → IsAt m id found → option_map (λ row. row.1) (table.get m (id, key)) ≡ expiry_in key (option_map cache_in found)
expiry_shown m id None key is = ap (option_map (λ (p : ℕ × Expiry). p.1)) (is key)
expiry_shown m id (Some cache) key is = rw (← is.id_is) (expiry_of_row (table.get m (cache.state.id, key)) m cache.state key is.kept.tied refl)

-- a cache's keys are distinct, and its rows within its capacity
pub sound_there : (m : RowMap) (id : ℕ) (found : Option Slot) (k : Cache) → IsAt m id found → option_map cache_in found ≡ Some k → IsSound k.config k.progress.state
sound_there m id None k is at = absurd cc
sound_there m id (Some cache) k is at = grind (arith, tied_keys, length-map)

-- a cache without rows has none in the table
none_found : (m : RowMap) (id : ℕ) → Tied m id [] → (key : List ℕ) (found : Option (ℕ × Expiry)) → table.get m (id, key) ≡ found → found ≡ None
none_found m id tied key None at = refl
none_found m id tied key (Some (r, e)) at = absurd (let no = tied.found key r e at in cc)

pub none_left : (m : RowMap) (k k' : Kept) → IsTied m k' → k' ≡ record k { cells = [] } → (key : List ℕ) → table.get m (k.id, key) ≡ None
none_left m k k' tied is key = none_found m k.id (subst (IsTied m) is tied) key (table.get m (k.id, key)) refl
