-- What the map of std finds at a place is what the table has there.
use Rattle.std.proofs.Common.{◌≡◌, ℕ, ◌+◌, arith, Bool, MutBor, true, false, ◌&&◌, cond, length, List, [], ◌∷◌, Option, Some, None, is_some, refl, sym, ap, ap₂, ◌∙◌, inl, inr}
use Rattle.std.proofs.lemmas.Bool.{eqb-true, eq-eqb, false_from_ne_true}
use Rattle.std.proofs.lemmas.Slice.Eq.{bytes_eq-Decides}
use Rattle.std.proofs.lemmas.Map.Made.{is_some-lookup}
use Rattle.std.specs.List.{IsDistinct, AllByRecursion, list_any}
use Rattle.std.specs.Map.{lookup, keys_of}
use Rattle.std.specs.Ordering.{eq_by_cmp}
use Rattle.std.specs.Result.{OnOk, IsOk}
use Rattle.std.specs.Prelude.{Result, Ok, Err}
use Rattle.std.specs.Option.{option_copied_mut}
use Rattle.std.specs.FinMap as map
use Rattle.jc_model.specs.declared.config.Expiry.{Expiry}
use Rattle.jc_model.specs.contracts.event.CacheIdPartialEq.TheImpl as id_eq
use Rattle.jc_model.specs.contracts.key.KeyPartialEq.TheImpl as key_eq
use Rattle.jc_rows.specs.Rows.{place_cmp, with_expiry}
use Rattle.jc_rows.proofs.Places.{places_total, place_tells}
use Rattle.jc_rows.proofs.Laws.{with_expiry_is, with_expiry_absent, same_rows, get-put_same, get-put_other, get-removed_same, get-removed_other}

-- as the map of std tells two places apart
abbrev pub place_eq : ℕ × List ℕ → ℕ × List ℕ → Bool
place_eq x y = id_eq.ghosts.eq x.0 y.0 && key_eq.ghosts.eq x.1 y.1

both : (a b : Bool) → (a && b) ≡ true → (a ≡ true) × (b ≡ true)
both true true h = (refl, refl)
both true false h = cc
both false b h = cc

ids_same : (i j : ℕ) → id_eq.ghosts.eq i j ≡ true → i ≡ j
ids_same i j h = eqb-true i j h

keys_same : (k q : List ℕ) → key_eq.ghosts.eq k q ≡ true → k ≡ q
keys_same k q h = (bytes_eq-Decides k q).0 h

key_itself : (k : List ℕ) → key_eq.ghosts.eq k k ≡ true
key_itself k = (bytes_eq-Decides k k).1 refl

place_itself : (x : ℕ × List ℕ) → place_eq x x ≡ true
place_itself x = ap₂ ◌&&◌ (eq-eqb x.0 x.0 refl) (key_itself x.1)

places_same : (x y : ℕ × List ℕ) → place_eq x y ≡ true → x ≡ y
places_same x y h = let parts = both (id_eq.ghosts.eq x.0 y.0) (key_eq.ghosts.eq x.1 y.1) h in
    ap₂ (λ (i : ℕ) (k : List ℕ). (i, k)) (ids_same x.0 y.0 parts.0) (keys_same x.1 y.1 parts.1)

same_test : (x y : ℕ × List ℕ) → place_eq x y ≡ eq_by_cmp place_cmp x y
same_test x y = elim (place_tells x y) [
  | inl same ↦ sym (ap (place_eq x) same.1) ∙ (place_itself x ∙ sym same.0)
  | inr other ↦ false_from_ne_true _ (λ h. other.1 (places_same x y h)) ∙ sym other.0
]

pub get_found : (es : List ((ℕ × List ℕ) × (ℕ × Expiry))) (x : ℕ × List ℕ) → map.get (map.from_entries {R = place_cmp} es) x ≡ lookup (place_eq x) es
get_found es x = map.get-from_entries places_total es x ∙ go es
  where
    go : (es : List ((ℕ × List ℕ) × (ℕ × Expiry))) → map.find place_cmp x es ≡ lookup (place_eq x) es
    go [] = refl
    go (e ∷ es) = ap₂ (λ b o. cond b (Some e.1) o) (sym (same_test x e.0)) (go es)

none_alike : (x : ℕ × List ℕ) (ks : List (ℕ × List ℕ)) → AllByRecursion (λ y. place_eq x y ≡ false) ks → list_any (place_eq x) ks ≡ false
none_alike x [] h = refl
none_alike x (k ∷ ks) h = rw h.0 (none_alike x ks h.1)

pub len_found : (es : List ((ℕ × List ℕ) × (ℕ × Expiry))) → IsDistinct place_eq (keys_of es) → map.len (map.from_entries {R = place_cmp} es) ≡ length es
unfolding IsDistinct
len_found [] distinct = map.len-empty place_cmp (ℕ × Expiry)
len_found (e ∷ es) distinct =
    let new : is_some (map.get (map.from_entries {R = place_cmp} es) e.0) ≡ false = ap is_some (get_found es e.0) ∙ (is_some-lookup (place_eq e.0) es ∙ none_alike e.0 (keys_of es) distinct.0) in
    let counted : map.len (map.from_entries {R = place_cmp} (e ∷ es)) ≡ map.len (map.from_entries {R = place_cmp} es) + 1 =
    map.len-insert places_total (map.from_entries es) e.0 e.1 ∙ ap (λ b. cond b (map.len (map.from_entries {R = place_cmp} es)) (map.len (map.from_entries {R = place_cmp} es) + 1)) new in
    omega (arith, counted, len_found es distinct.1)

-- Where the map of std finds the same, or another row at one place, so does the table.

pub same_found : (es fs : List ((ℕ × List ℕ) × (ℕ × Expiry))) → ((y : ℕ × List ℕ) → lookup (place_eq y) fs ≡ lookup (place_eq y) es) → map.from_entries {R = place_cmp} fs ≡ map.from_entries es
same_found es fs alike = same_rows _ _ (λ y. get_found fs y ∙ (alike y ∙ sym (get_found es y)))

pub put_found : (es fs : List ((ℕ × List ℕ) × (ℕ × Expiry))) (x : ℕ × List ℕ) (row : ℕ × Expiry) → ((y : ℕ × List ℕ) → lookup (place_eq y) fs ≡ cond (place_eq x y) (Some row) (lookup (place_eq y) es))
    → map.from_entries {R = place_cmp} fs ≡ map.insert (map.from_entries es) x row
put_found es fs x row changed = same_rows _ _ (λ y. get_found fs y ∙ (changed y ∙ elim (place_tells x y) [
  | inl same ↦ ap (λ b. cond b (Some row) (lookup (place_eq y) es)) (same_test x y ∙ same.0) ∙ sym (ap (map.get (map.insert (map.from_entries es) x row)) (sym same.1) ∙ get-put_same (map.from_entries es) x row)
  | inr other ↦ ap (λ b. cond b (Some row) (lookup (place_eq y) es)) (same_test x y ∙ other.0) ∙ sym (get-put_other (map.from_entries es) x row y (λ h. other.1 (sym h)) ∙ get_found es y)
]))

pub removed_found : (es fs : List ((ℕ × List ℕ) × (ℕ × Expiry))) (x : ℕ × List ℕ) → ((y : ℕ × List ℕ) → lookup (place_eq y) fs ≡ cond (place_eq x y) None (lookup (place_eq y) es))
    → map.from_entries {R = place_cmp} fs ≡ map.remove (map.from_entries es) x
removed_found es fs x changed = same_rows _ _ (λ y. get_found fs y ∙ (changed y ∙ elim (place_tells x y) [
  | inl same ↦ ap (λ b. cond b None (lookup (place_eq y) es)) (same_test x y ∙ same.0) ∙ sym (ap (map.get (map.remove (map.from_entries es) x)) (sym same.1) ∙ get-removed_same (map.from_entries es) x)
  | inr other ↦ ap (λ b. cond b None (lookup (place_eq y) es)) (same_test x y ∙ other.0) ∙ sym (get-removed_other (map.from_entries es) x y (λ h. other.1 (sym h)) ∙ get_found es y)
]))

pub expiry_found : (es fs : List ((ℕ × List ℕ) × (ℕ × Expiry))) (x : ℕ × List ℕ) (row : ℕ × Expiry) (expiry : Expiry) → lookup (place_eq x) es ≡ Some row
    → ((y : ℕ × List ℕ) → lookup (place_eq y) fs ≡ cond (place_eq x y) (Some (row.0, expiry)) (lookup (place_eq y) es)) → map.from_entries {R = place_cmp} fs ≡ with_expiry (map.from_entries es) x expiry
expiry_found es fs x row expiry found changed =
    put_found es fs x (row.0, expiry) changed ∙ sym (with_expiry_is (map.from_entries es) x row.0 row.1 expiry (get_found es x ∙ found))

pub no_expiry_found : (es : List ((ℕ × List ℕ) × (ℕ × Expiry))) (x : ℕ × List ℕ) (expiry : Expiry) → lookup (place_eq x) es ≡ None → map.from_entries {R = place_cmp} es ≡ with_expiry (map.from_entries es) x expiry
no_expiry_found es x expiry none = sym (with_expiry_absent (map.from_entries es) x expiry (get_found es x ∙ none))

-- a loan that is not there
pub none_lent : (o : Option (MutBor (ℕ × Expiry))) → ((r : MutBor (ℕ × Expiry)) → o ≡ Some r → ⊥) → option_copied_mut o ≡ None
none_lent None h = refl
none_lent (Some r) h = absurd (h r refl)

-- what holds at `Ok` of a result that is one
pub at_ok : {A E : Type 0} (r : Result A E) (P : Type 0) → OnOk r P → IsOk r → P
at_ok (Ok a) P holds ok = holds
at_ok (Err e) P holds ok = cc
