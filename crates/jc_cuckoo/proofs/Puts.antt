-- What a change of one cell does to the image.
use Rattle.std.proofs.Common.{◌≡◌, ℕ, ◌*◌, ◌<◌, ◌≤◌, List, length, set, get_or, Option, Some, None, refl, sym, ap, ap₂, ◌∙◌, subst, arith, inl, inr}
use Rattle.std.specs.Option.{option_map}
use Rattle.std.proofs.lemmas.Bool.{cases_lt}
use Rattle.std.proofs.lemmas.Bool.Decides.{eqb_tells}
use Rattle.std.proofs.lemmas.List.{length-set, get_or-set_same, get_or-set_other}
use Rattle.std.specs.FinMap.{get}
use Rattle.jc_model.specs.declared.config.Expiry.{Expiry}
use Rattle.jc_rows.specs.Rows.{RowMap}
use Rattle.jc_cuckoo.specs.declared.held.Held.{Held}
use Rattle.jc_cuckoo.specs.Cells.{cell, held_place}
use Rattle.jc_rows.specs.Images.{Image, Shown, Shows, image_slot}
use Rattle.jc_cuckoo.specs.Images.{SetsShown, shown_row, image_of}
use Rattle.jc_cuckoo.proofs.Cells.{IsOnce}
use Rattle.jc_cuckoo.proofs.Told.{slot_is, slot_past, behind}

-- the cell of the row's slot changes
pub puts_set : (n : ℕ) (cs : List (Option Held)) (i : ℕ) (h : Held) (v : Option Held) → IsOnce cs → 4 * n ≤ length cs → i < 4 * n → cell cs i ≡ Some h → SetsShown (held_place h) (option_map shown_row v) (image_of n cs) (image_of n (set cs i v))
puts_set n cs i h v once wide below is = record {
  buckets = refl;
  own = λ j s shows same. (let b = behind n cs j s wide shows in let e : j ≡ i = once j i b.held h b.is is (ap (λ (y : Shown). y.0) b.shows ∙ same) in
      subst (λ (k : ℕ). image_slot (image_of n (set cs i v)) k ≡ option_map shown_row v) (sym e) (slot_is n (set cs i v) i long below ∙ ap (option_map shown_row) (get_or-set_same cs i v None (omega arith))));
  others = λ j none. elim (eqb_tells j i) [
    | inl same ↦ absurd (none (shown_row h) (ap (image_slot (image_of n cs)) same.1 ∙ (slot_is n cs i wide below ∙ ap (option_map shown_row) is)) refl)
    | inr away ↦ elsewhere j away.1
  ];
}
  where
    long : 4 * n ≤ length (set cs i v)
    long = (let e = length-set cs i v in omega arith)

    elsewhere : (j : ℕ) → (j ≡ i → ⊥) → image_slot (image_of n (set cs i v)) j ≡ image_slot (image_of n cs) j
    elsewhere j away = elim (cases_lt j (4 * n)) [
      | inl inside ↦ slot_is n (set cs i v) j long inside ∙ (ap (option_map shown_row) (get_or-set_other cs i j v None away) ∙ sym (slot_is n cs j wide inside))
      | inr past ↦ slot_past n (set cs i v) j long past ∙ sym (slot_past n cs j wide past)
    ]

abbrev pub slots_of : Image → List (Option Shown)
slots_of x = x.slots

-- the row stands in the stash: the slots stay
pub puts_stashed : (n : ℕ) (cs ds : List (Option Held)) (i : ℕ) (h : Held) (v : Option Shown) → IsOnce cs → 4 * n ≤ length cs → 4 * n ≤ i → cell cs i ≡ Some h → slots_of (image_of n ds) ≡ slots_of (image_of n cs) → SetsShown (held_place h) v (image_of n cs) (image_of n ds)
puts_stashed n cs ds i h v once wide above is same = record {
  buckets = refl;
  own = λ j s shows at. (let b = behind n cs j s wide shows in let low = b.below in let e : j ≡ i = once j i b.held h b.is is (ap (λ (y : Shown). y.0) b.shows ∙ at) in absurd (omega arith));
  others = λ j other. ap (λ (l : List (Option Shown)). get_or l j None) same;
}

-- the image stays, where the row has this expiry already
pub puts_same : (rows : RowMap) (x : Image) (place : ℕ × List ℕ) (row : ℕ) (e : Expiry) → Shows rows x → get rows place ≡ Some (row, e) → SetsShown place (Some (place, e)) x x
puts_same rows x place row e shows stands = record {
  buckets = refl;
  own = λ i s is at. is ∙ ap (λ (y : Shown). Some y) (alike s at (shows.placed i s is).0 (shows.placed i s is).1);
  others = λ i other. refl;
}
  where
    alike : (s : Shown) → s.0 ≡ place → (r : ℕ) → get rows s.0 ≡ Some (r, s.1) → s ≡ (place, e)
    alike s at r is =
        let both : ◌≡◌ {A = Option (ℕ × Expiry)} (Some (r, s.1)) (Some (row, e)) = sym is ∙ (ap (get rows) at ∙ stands) in
        let pair : ◌≡◌ {A = ℕ × Expiry} (r, s.1) (row, e) = cc in
        ap₂ (λ (y : ℕ × List ℕ) (z : Expiry). (y, z)) at (ap (λ (y : ℕ × Expiry). y.1) pair)
