-- How a roster's fields stand for its caches.
use Rattle.std.specs.Prelude.{◌≡◌, ◌≤◌, ℕ, zero, suc, ◌+◌, ◌==◌, if◌then◌else◌, List, [], ◌∷◌, length, map}
use Rattle.std.specs.Prelude.{Option, Some, None}
use Rattle.jc_model.specs.Limits.{most_ids, most_rows_together}
use Rattle.jc_model.specs.Places.{all_there, HaveNames}
use Rattle.jc_model.specs.Members.{id_named, numbers_from}
use Rattle.jc_model.specs.Refusals.{Member, rows_of}

-- so many numbers from i on; those in the list have the members, one after the other
abbrev pub spread : {A : Type 0} → ℕ → ℕ → List ℕ → List A → List (Option A)
spread zero i numbers xs = []
spread (suc n) i [] xs = None ∷ spread n (i + 1) [] xs
spread (suc n) i (k ∷ numbers) [] = None ∷ spread n (i + 1) (k ∷ numbers) []
spread (suc n) i (k ∷ numbers) (x ∷ xs) =
    if k == i then Some x ∷ spread n (i + 1) numbers xs else None ∷ spread n (i + 1) (k ∷ numbers) (x ∷ xs)

pub record IsRoster (ms : List (Option Member)) (next : ℕ) (order : List ℕ) (names : List (List ℕ)) (capacities : List ℕ) (ids : List ℕ → Option ℕ) (total : ℕ) : Type 0 where
  pub counted : next ≡ length ms
  pub bound : next ≤ most_ids
  pub numbers : order ≡ numbers_from 0 ms
  pub named : names ≡ map (λ m. m.name) (all_there ms)
  pub sized : capacities ≡ map (λ m. m.capacity) (all_there ms)
  pub found : (name : List ℕ) → ids name ≡ id_named name ms
  pub differ : HaveNames (λ m. m.name) ms
  pub summed : total ≡ rows_of ms
  pub small : total ≤ most_rows_together
