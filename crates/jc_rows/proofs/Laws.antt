-- What the table has at a place, and how many rows, after a change.
use Rattle.std.proofs.Common.{◌≡◌, ℕ, true, false, eqb, ◌≤◌, ◌+◌, ◌-◌, cond, List, Option, Some, None, is_some, IsSome, refl, sym, ap, ◌∙◌, arith, inl, inr}
use Rattle.std.proofs.lemmas.Grind.{common_steps}
use Rattle.std.proofs.lemmas.Bool.{eqb-false}
use Rattle.std.proofs.lemmas.Bool.Decides.{eqb_tells}
use Rattle.std.proofs.lemmas.Slice.Eq.{bytes_eq-Decides}
use Rattle.std.specs.Str.{bytes_eq}
use Rattle.std.specs.FinMap as map
use Rattle.jc_model.specs.declared.config.Expiry.{Expiry}
use Rattle.jc_rows.specs.Rows.{place_cmp, RowMap, with_expiry, with_expiry_at}
use Rattle.jc_rows.proofs.Places.{places_total, exact_places, same_place, apart, place_tells}

-- Two places differ where the keys or the caches do.

pub keys_apart : (i j : ℕ) (k q : List ℕ) → bytes_eq k q ≡ false → ◌≡◌ {A = ℕ × List ℕ} (i, k) (j, q) → ⊥
keys_apart i j k q differ same = let equal : bytes_eq k q ≡ true = (bytes_eq-Decides k q).1 (ap (λ p. p.1) same) in cc

pub caches_apart : (i j : ℕ) (k q : List ℕ) → eqb i j ≡ false → ◌≡◌ {A = ℕ × List ℕ} (i, k) (j, q) → ⊥
caches_apart i j k q differ same = eqb-false i j differ (ap (λ p. p.0) same)

-- The empty table.

pub get-empty : (x : ℕ × List ℕ) → map.get {X = ℕ × Expiry} (map.empty {R = place_cmp}) x ≡ None
get-empty x = map.get-empty place_cmp x

pub len-empty : map.len {X = ℕ × Expiry} (map.empty {R = place_cmp}) ≡ 0
len-empty = map.len-empty place_cmp (ℕ × Expiry)

-- Two tables that answer alike are equal.

pub same_rows : (m n : RowMap) → ((x : ℕ × List ℕ) → map.get m x ≡ map.get n x) → m ≡ n
same_rows m n alike = map.same_map places_total exact_places m n alike

-- After a row is put.

pub get-put_same : (m : RowMap) (x : ℕ × List ℕ) (row : ℕ × Expiry) → map.get (map.insert m x row) x ≡ Some row
get-put_same m x row = map.get-insert places_total m x row x ∙ ap (λ b. cond b (Some row) (map.get m x)) (same_place x)

pub get-put_other : (m : RowMap) (x : ℕ × List ℕ) (row : ℕ × Expiry) (y : ℕ × List ℕ) → (y ≡ x → ⊥) → map.get (map.insert m x row) y ≡ map.get m y
get-put_other m x row y differ = map.get-insert places_total m x row y ∙ ap (λ b. cond b (Some row) (map.get m y)) (apart y x differ)

pub get-put_key : (m : RowMap) (i : ℕ) (k : List ℕ) (row : ℕ × Expiry) (j : ℕ) (q : List ℕ) → bytes_eq q k ≡ false → map.get (map.insert m (i, k) row) (j, q) ≡ map.get m (j, q)
get-put_key m i k row j q differ = get-put_other m (i, k) row (j, q) (keys_apart j i q k differ)

pub get-put_cache : (m : RowMap) (i : ℕ) (k : List ℕ) (row : ℕ × Expiry) (j : ℕ) (q : List ℕ) → eqb j i ≡ false → map.get (map.insert m (i, k) row) (j, q) ≡ map.get m (j, q)
get-put_cache m i k row j q differ = get-put_other m (i, k) row (j, q) (caches_apart j i q k differ)

pub len-put : (m : RowMap) (x : ℕ × List ℕ) (row : ℕ × Expiry) → map.get m x ≡ None → map.len (map.insert m x row) ≡ map.len m + 1
len-put m x row absent = map.len-insert places_total m x row ∙ ap (λ b. cond b (map.len m) (map.len m + 1)) (ap is_some absent)

pub len-put_again : (m : RowMap) (x : ℕ × List ℕ) (row : ℕ × Expiry) → IsSome (map.get m x) → map.len (map.insert m x row) ≡ map.len m
len-put_again m x row present = map.len-insert places_total m x row ∙ ap (λ b. cond b (map.len m) (map.len m + 1)) present

pub len-put_most : (m : RowMap) (x : ℕ × List ℕ) (row : ℕ × Expiry) → map.len (map.insert m x row) ≤ map.len m + 1
len-put_most m x row = grind (arith, common_steps, map.len-insert places_total m x row)

-- After a row is removed.

pub get-removed_same : (m : RowMap) (x : ℕ × List ℕ) → map.get (map.remove m x) x ≡ None
get-removed_same m x = map.get-remove places_total m x x ∙ ap (λ b. cond b None (map.get m x)) (same_place x)

pub get-removed_other : (m : RowMap) (x y : ℕ × List ℕ) → (y ≡ x → ⊥) → map.get (map.remove m x) y ≡ map.get m y
get-removed_other m x y differ = map.get-remove places_total m x y ∙ ap (λ b. cond b None (map.get m y)) (apart y x differ)

pub get-removed_key : (m : RowMap) (i : ℕ) (k : List ℕ) (j : ℕ) (q : List ℕ) → bytes_eq q k ≡ false → map.get (map.remove m (i, k)) (j, q) ≡ map.get m (j, q)
get-removed_key m i k j q differ = get-removed_other m (i, k) (j, q) (keys_apart j i q k differ)

pub get-removed_cache : (m : RowMap) (i : ℕ) (k : List ℕ) (j : ℕ) (q : List ℕ) → eqb j i ≡ false → map.get (map.remove m (i, k)) (j, q) ≡ map.get m (j, q)
get-removed_cache m i k j q differ = get-removed_other m (i, k) (j, q) (caches_apart j i q k differ)

-- what is absent stays so
pub get-removed_absent : (m : RowMap) (x y : ℕ × List ℕ) → map.get m y ≡ None → map.get (map.remove m x) y ≡ None
get-removed_absent m x y absent = elim (place_tells y x) [
  | inl same ↦ ap (map.get (map.remove m x)) same.1 ∙ get-removed_same m x
  | inr other ↦ get-removed_other m x y other.1 ∙ absent
]

pub len-removed : (m : RowMap) (x : ℕ × List ℕ) → IsSome (map.get m x) → map.len (map.remove m x) + 1 ≡ map.len m
len-removed m x present = elim (eqb_tells (map.len m) 0) [
  | inl none ↦ (let no_row : is_some (map.get m x) ≡ false = ap (λ n. is_some (map.get n x)) (map.empty_of_len m none.1) ∙ ap is_some (get-empty x) in cc)
  | inr some ↦ (let left : map.len (map.remove m x) ≡ map.len m - 1 = map.len-remove places_total m x ∙ ap (λ b. cond b (map.len m - 1) (map.len m)) present in omega arith)
]

pub removed_absent : (m : RowMap) (x : ℕ × List ℕ) → map.get m x ≡ None → map.remove m x ≡ m
removed_absent m x absent = same_rows _ _ (λ y. elim (place_tells y x) [
  | inl same ↦ ap (map.get (map.remove m x)) same.1 ∙ (get-removed_same m x ∙ sym (ap (map.get m) same.1 ∙ absent))
  | inr other ↦ get-removed_other m x y other.1
])

-- After the expiry of a row is changed.

pub with_expiry_is : (m : RowMap) (x : ℕ × List ℕ) (r : ℕ) (e expiry : Expiry) → map.get m x ≡ Some (r, e) → with_expiry m x expiry ≡ map.insert m x (r, expiry)
with_expiry_is m x r e expiry found = ap (with_expiry_at m x expiry) found

pub with_expiry_absent : (m : RowMap) (x : ℕ × List ℕ) (expiry : Expiry) → map.get m x ≡ None → with_expiry m x expiry ≡ m
with_expiry_absent m x expiry absent = ap (with_expiry_at m x expiry) absent

get-with_expiry_at : (m : RowMap) (x : ℕ × List ℕ) (expiry : Expiry) (o : Option (ℕ × Expiry)) (y : ℕ × List ℕ) → (y ≡ x → ⊥) → map.get (with_expiry_at m x expiry o) y ≡ map.get m y
get-with_expiry_at m x expiry None y differ = refl
get-with_expiry_at m x expiry (Some row) y differ = get-put_other m x (row.0, expiry) y differ

pub get-with_expiry_other : (m : RowMap) (x : ℕ × List ℕ) (expiry : Expiry) (y : ℕ × List ℕ) → (y ≡ x → ⊥) → map.get (with_expiry m x expiry) y ≡ map.get m y
get-with_expiry_other m x expiry y differ = get-with_expiry_at m x expiry (map.get m x) y differ

pub get-with_expiry_cache : (m : RowMap) (i : ℕ) (k : List ℕ) (expiry : Expiry) (j : ℕ) (q : List ℕ) → eqb j i ≡ false → map.get (with_expiry m (i, k) expiry) (j, q) ≡ map.get m (j, q)
get-with_expiry_cache m i k expiry j q differ = get-with_expiry_other m (i, k) expiry (j, q) (caches_apart j i q k differ)
