-- Rows and caches, as they are written.
use Rattle.std.proofs.Common.{◌≡◌, ℕ, Bool, ◌+◌, ◌<◌, ◌≤◌, List, [], ◌∷◌, ◌++◌, length, get_or, take, refl, ap, ◌∙◌, append_assoc, append-nil, arith}
use Rattle.std.specs.Int.{w16, to_le_bytes}
use Rattle.std.specs.List.{flat_map}
use Rattle.std.proofs.lemmas.List.{length-append, length-map, map_more, take_all}
use Rattle.std.proofs.lemmas.List.Concat.{flat_map-cons}
use Rattle.std.proofs.lemmas.Grind.{flat_map-append}
use Rattle.jc_model.specs.declared.config.Expiry.{Expiry}
use Rattle.jc_model.specs.declared.config.Expiry.TheVariants.{Never, At}
use Rattle.jc_model.specs.State.{Item}
use Rattle.jc_save.specs.declared.cache.Mark.{Mark}
use Rattle.jc_save.specs.declared.cache.SavedCache.{SavedCache}
use Rattle.jc_save.specs.declared.cache.SavedRow.{SavedRow}
use Rattle.jc_save.specs.Placing.{put_at, row_with}
use Rattle.jc_save.specs.Restoring.{item, items, state_of}
use Rattle.jc_save.specs.Spelling.{mark, key, value, row, row_front, head, saved}
use Rattle.jc_save.proofs.Placing.{put_then}

-- A row's front, and its value's bytes.
module _ (front text bytes : List ℕ) (m : Mark) (is : front ≡ row_front m.expiry m.used text (length bytes)) where
  is_row : front ++ bytes ≡ row (row_with text bytes m)
  unfolding row row_front
  is_row =
      let start = mark m.expiry m.used in
      let count = to_le_bytes w16 (length bytes) in
      ap (λ (f : List ℕ). f ++ bytes) is
      ∙ append_assoc start (key text ++ count) bytes
      ∙ ap (λ (t : List ℕ). start ++ t) (append_assoc (key text) count bytes)

  pub row_put : (at : ℕ) (out : List ℕ) → put_at (at + length front) bytes (put_at at front out) ≡ put_at at (row (row_with text bytes m)) out
  row_put at out = put_then at front bytes out ∙ ap (λ (t : List ℕ). put_at at t out) is_row

  pub row_place : (at : ℕ) → at + length front + length bytes ≡ at + length (row (row_with text bytes m))
  row_place at = omega (arith, length-append front bytes, ap length is_row)

pub rows_then : (rows : List SavedRow) (i : ℕ) (d : SavedRow) → i < length rows → flat_map row (items (take (i + 1) rows)) ≡ flat_map row (items (take i rows)) ++ row (item (get_or rows i d))
rows_then rows i d lt =
    let x = item (get_or rows i d) in
    ap (flat_map row) (map_more item rows i d lt)
    ∙ flat_map-append row (items (take i rows)) (x ∷ [])
    ∙ ap (λ (t : List ℕ). flat_map row (items (take i rows)) ++ t) (flat_map-cons row x [] ∙ append-nil (row x))

pub all_rows : (c : SavedCache) (i : ℕ) → length c.rows ≤ i → head c.config c.counts (length c.rows) ++ flat_map row (items (take i c.rows)) ≡ saved c.config (state_of c)
unfolding saved
all_rows c i le = rw (take_all i c.rows le, length-map c.rows item) refl

mark_length : (e : Expiry) (used : Bool) → length (mark e used) ≤ 9
unfolding mark
mark_length Never used = omega arith
mark_length (At m) used = omega arith

pub row_length : (x : Item) → length (row x) ≤ length x.key + length x.value + 12
unfolding row
row_length x =
    omega (arith, mark_length x.expiry x.used, length-append (mark x.expiry x.used) (key x.key ++ value x.value), length-append (key x.key) (value x.value), length-append (to_le_bytes w16 (length x.value)) x.value)
