-- The image of a sound table shows what its cells hold.
use Rattle.std.proofs.Common.{◌≡◌, ℕ, suc, ◌+◌, ◌-◌, ◌*◌, ◌<◌, List, [], ◌∷◌, length, map, take, drop, cond, is_some, Option, Some, None, refl, sym, ap, ◌∙◌, subst, arith, inl, inr}
use Rattle.std.specs.FinMap as rows
use Rattle.std.specs.List.{count_by}
use Rattle.std.specs.Option.{option_map}
use Rattle.std.proofs.lemmas.Bool.{cases_lt}
use Rattle.std.proofs.lemmas.List.{get_or-drop, get_or_past, length-drop}
use Rattle.std.proofs.lemmas.List.Sums.{sum_by-cons, sum_by-take-drop}
use Rattle.jc_model.specs.declared.config.Expiry.{Expiry}
use Rattle.jc_rows.proofs.Laws.{len-empty, len-put}
use Rattle.jc_place.specs.declared.place.Place.{Place}
use Rattle.jc_cuckoo.specs.declared.held.Held.{Held}
use Rattle.jc_cuckoo.specs.Cells.{held_place, held_row, cell, rows_in, AreSoundCells}
use Rattle.jc_rows.specs.Images.{Shown, Shows, image_slot}
use Rattle.jc_cuckoo.specs.Images.{shown_row, image_of}
use Rattle.jc_cuckoo.proofs.Cells.{IsOnce, once_below, get_none, get_some, get_found}
use Rattle.jc_cuckoo.proofs.Told.{behind, slot_is}

abbrev one_if : {A : Type 0} → Option A → ℕ
one_if o = cond (is_some o) 1 0

-- each row is counted once
pub count_rows : (cs : List (Option Held)) → IsOnce cs → count_by is_some cs ≡ rows.len (rows_in cs)
unfolding rows_in
count_rows [] once = sym len-empty
count_rows (None ∷ cs) once = let head = sum_by-cons one_if None cs in let rest = count_rows cs (once_below None cs once) in omega arith
count_rows (Some h ∷ cs) once =
    let head = sum_by-cons one_if (Some h) cs in
    let rest = count_rows cs (once_below (Some h) cs once) in
    let more = len-put (rows_in cs) (held_place h) (held_row h) (get_none cs (held_place h) (λ i k is same. (let e : suc i ≡ 0 = once (suc i) 0 k h is refl same in omega arith))) in
    omega arith

count_shown : (cs : List (Option Held)) → count_by is_some (map (option_map shown_row) cs) ≡ count_by is_some cs
count_shown [] = refl
count_shown (None ∷ cs) = let there = sum_by-cons one_if None (map (option_map shown_row) cs) in let here = sum_by-cons one_if None cs in let rest = count_shown cs in omega arith
count_shown (Some h ∷ cs) = let there = sum_by-cons one_if (Some (shown_row h)) (map (option_map shown_row) cs) in let here = sum_by-cons one_if (Some h) cs in let rest = count_shown cs in omega arith

count_all : (cs : List (Option Held)) → ((i : ℕ) → i < length cs → cell cs i ≡ None → ⊥) → count_by is_some cs ≡ length cs
count_all [] full = refl
count_all (None ∷ cs) full = absurd (full 0 (omega arith) refl)
count_all (Some h ∷ cs) full = let head = sum_by-cons one_if (Some h) cs in let rest = count_all cs (λ i below. full (suc i) (omega arith)) in omega arith

-- the slots' rows and the stash's are all
pub count_slots : (p : ℕ → List ℕ → Place) (n : ℕ) (tags : List ℕ) (cs : List (Option Held)) → AreSoundCells p n tags cs → count_by is_some (take (4 * n) cs) + (length cs - 4 * n) ≡ rows.len (rows_in cs)
count_slots p n tags cs sound =
    let parts = sum_by-take-drop one_if cs (4 * n) in
    let long = length-drop (4 * n) cs in
    let wide = sound.wide in
    let stash = count_all (drop (4 * n) cs) (λ i below none. sound.stash (4 * n + i) (omega arith) (omega arith) (sym (get_or-drop (4 * n) cs i None) ∙ none)) in
    let all = count_rows cs sound.once in
    omega arith

cell_below : (cs : List (Option Held)) (i : ℕ) (h : Held) → cell cs i ≡ Some h → i < length cs
cell_below cs i h is = elim (cases_lt i (length cs)) [
  | inl below ↦ below
  | inr past ↦ (let none : cell cs i ≡ None = get_or_past cs i None past in absurd cc)
]

-- where the stash is empty, each row stands in a slot
all_shown : (p : ℕ → List ℕ → Place) (n : ℕ) (tags : List ℕ) (cs : List (Option Held)) → AreSoundCells p n tags cs → length cs - 4 * n ≡ 0 → (place : ℕ × List ℕ) (row : ℕ × Expiry) → rows.get (rows_in cs) place ≡ Some row
    → (i : ℕ) × (image_slot (image_of n cs) i ≡ Some (place, row.1))
all_shown p n tags cs sound none place row is =
    let f = get_found cs place row is in
    let within = cell_below cs f.stands.at f.held f.stands.is in
    let below : f.stands.at < 4 * n = omega arith in
    (f.stands.at, slot_is n cs f.stands.at sound.wide below ∙ (ap (option_map shown_row) f.stands.is ∙ (λ i. Some (f.at i, (f.gives i).1))))

pub shows : (p : ℕ → List ℕ → Place) (n : ℕ) (tags : List ℕ) (cs : List (Option Held)) → AreSoundCells p n tags cs → Shows (rows_in cs) (image_of n cs)
shows p n tags cs sound = record {
  placed = λ i s is. (
      let b = behind n cs i s sound.wide is in
      (b.held.row, subst (λ (x : Shown). rows.get (rows_in cs) x.0 ≡ Some (b.held.row, x.1)) b.shows (get_some cs i b.held sound.once b.is)));
  others = (let slots = count_shown (take (4 * n) cs) in let all = count_slots p n tags cs sound in omega arith);
  whole = all_shown p n tags cs sound;
}
