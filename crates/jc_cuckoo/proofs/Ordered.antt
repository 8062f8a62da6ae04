-- The stash in another order holds the same rows.
use Rattle.std.proofs.Common.{◌≡◌, ◌≢◌, ◌⊎◌, ℕ, ◌+◌, ◌-◌, ◌*◌, ◌<◌, ◌≤◌, List, ◌++◌, length, map, take, Option, Some, None, refl, sym, ap, ap₂, ◌∙◌, subst, arith, inl, inr, get_or}
use Rattle.std.specs.List.{swap}
use Rattle.std.specs.Prelude.{IsPermutation}
use Rattle.std.proofs.lemmas.Bool.Decides.{eqb_tells}
use Rattle.std.proofs.lemmas.List.{take-append-le, length-append, length-map, length-take-le, take-take, get_or-append_right, get_or-map}
use Rattle.std.proofs.lemmas.List.Edits.{Swapped, swapped_from_swap}
use Rattle.std.proofs.lemmas.List.Sorted.{IsPermutation-append_right, IsPermutation-keeps, IsPermutation-map, length_permutation}
use Rattle.jc_place.specs.declared.place.Place.{Place}
use Rattle.jc_rows.specs.Images.{Image}
use Rattle.jc_cuckoo.specs.declared.held.Held.{Held}
use Rattle.jc_cuckoo.specs.Cells.{cell, rows_in, IsOnce}
use Rattle.jc_cuckoo.specs.Images.{CoversImage, image_of, shown_row}
use Rattle.std.specs.Option.{option_map}
use Rattle.jc_cuckoo.specs.Double.{HasStash, HoldsStash, IsDoubled, AreStashRows, with_stash_rows}
use Rattle.jc_cuckoo.specs.Table.{Table}
use Rattle.jc_cuckoo.proofs.Cells.{Stands, moved}

-- the cell from which a cell's row came
record Turned (cs ds : List (Option Held)) (i j k : ℕ) : Type 0 where
  from : ℕ
  same : cell ds k ≡ cell cs from
  back : cell cs k ≡ cell ds from
  is : ((k ≡ i) × (from ≡ j)) ⊎ (((k ≡ j) × (from ≡ i)) ⊎ ((k ≢ i) × (k ≢ j) × (from ≡ k)))

turned : (cs ds : List (Option Held)) (i j k : ℕ) → Swapped (cell cs) (cell ds) i j → Turned cs ds i j k
turned cs ds i j k swapped = elim (eqb_tells k i) [
  | inl one ↦ record { from = j; same = ap (cell ds) one.1 ∙ swapped.0; back = ap (cell cs) one.1 ∙ sym swapped.1; is = inl (one.1, refl) }
  | inr off ↦ elim (eqb_tells k j) [
    | inl two ↦ record { from = i; same = ap (cell ds) two.1 ∙ swapped.1; back = ap (cell cs) two.1 ∙ sym swapped.0; is = inr (inl (two.1, refl)) }
    | inr away ↦ record { from = k; same = swapped.2 k off.1 away.1; back = sym (swapped.2 k off.1 away.1); is = inr (inr (off.1, away.1, refl)) }
  ]
]

same_from : (cs ds : List (Option Held)) (i j k l : ℕ) (x : Turned cs ds i j k) (y : Turned cs ds i j l) → x.from ≡ y.from → k ≡ l
same_from cs ds i j k l x y e = elim x.is [
  | inl a ↦ elim y.is [
    | inl b ↦ a.0 ∙ sym b.0
    | inr r ↦ elim r [
      | inl b ↦ a.0 ∙ (sym b.1 ∙ (sym e ∙ (a.1 ∙ sym b.0)))
      | inr b ↦ absurd (b.1 (sym b.2 ∙ (sym e ∙ a.1)))
    ]
  ]
  | inr q ↦ elim q [
    | inl a ↦ elim y.is [
      | inl b ↦ a.0 ∙ (sym b.1 ∙ (sym e ∙ (a.1 ∙ sym b.0)))
      | inr r ↦ elim r [
        | inl b ↦ a.0 ∙ sym b.0
        | inr b ↦ absurd (b.0 (sym b.2 ∙ (sym e ∙ a.1)))
      ]
    ]
    | inr a ↦ elim y.is [
      | inl b ↦ absurd (a.1 (sym a.2 ∙ (e ∙ b.1)))
      | inr r ↦ elim r [
        | inl b ↦ absurd (a.0 (sym a.2 ∙ (e ∙ b.1)))
        | inr b ↦ sym a.2 ∙ (e ∙ b.2)
      ]
    ]
  ]
]

pub rows_permuted : (cs ds : List (Option Held)) → IsPermutation cs ds → IsOnce cs → IsOnce ds × (rows_in ds ≡ rows_in cs)
rows_permuted cs ds permutes once = IsPermutation-keeps cs (λ l. IsOnce l × (rows_in l ≡ rows_in cs)) (once, refl) step ds permutes
  where
    step : (l : List (Option Held)) (i j : ℕ) → i < length l → j < length l → IsOnce l × (rows_in l ≡ rows_in cs) → IsOnce (swap l i j) × (rows_in (swap l i j) ≡ rows_in cs)
    step l i j below under held = (kept, moved l (swap l i j) held.0 kept there here ∙ held.1)
      where
        swapped : Swapped (cell l) (cell (swap l i j)) i j
        swapped = swapped_from_swap l (swap l i j) i j None below under refl

        at : (k : ℕ) → Turned l (swap l i j) i j k
        at k = turned l (swap l i j) i j k swapped

        kept : IsOnce (swap l i j)
        kept k m a b is other same = same_from l (swap l i j) i j k m (at k) (at m) (held.0 (at k).from (at m).from a b (sym (at k).same ∙ is) (sym (at m).same ∙ other) same)

        there : (h : Held) → Stands l h → Stands (swap l i j) h
        there h s = record { at = (at s.at).from; is = sym (at s.at).back ∙ s.is }

        here : (h : Held) → Stands (swap l i j) h → Stands l h
        here h s = record { at = (at s.at).from; is = sym (at s.at).same ∙ s.is }

-- the slots stay, so the image does

same_slots : (n : ℕ) (cs : List (Option Held)) (rows : List (ℕ × Held)) → 4 * n ≤ length cs → take (4 * n) (take (4 * n) cs ++ map (λ row. Some row.1) rows) ≡ take (4 * n) cs
same_slots n cs rows wide = take-append-le (4 * n) (take (4 * n) cs) (map (λ row. Some row.1) rows) (let e = length-take-le (4 * n) cs wide in omega arith) ∙ take-take (4 * n) (4 * n) cs (omega arith)

pub same_image : {P M : Type 0} (t : Table P M) (rows : List (ℕ × Held)) → AreStashRows t.buckets t.cells rows → image_of t.buckets (with_stash_rows t rows).cells ≡ image_of t.buckets t.cells
same_image t rows waits = ap₂ (λ (l : List (Option Held)) (m : ℕ). record { buckets = t.buckets; slots = map (option_map shown_row) l; stash = m - 4 * t.buckets }) (same_slots t.buckets t.cells rows waits.wide) (length_permutation t.cells (with_stash_rows t rows).cells waits.permutes)

pub stash_ordered : {P M N : Type 0} (placing : P → ℕ → List ℕ → Place) (t : Table P M) (rows : List (ℕ × Held)) (u : Table P N) → AreStashRows t.buckets t.cells rows → HasStash placing t (4 * t.buckets) u → HasStash placing (with_stash_rows t rows) (4 * t.buckets) u
stash_ordered placing t rows u waits has = record {
  placer = has.placer;
  buckets = has.buckets;
  rows = has.rows ∙ sym (ap rows_in (same_slots t.buckets t.cells rows waits.wide));
  short = has.short;
  covers = subst (λ (x : Image). CoversImage x (image_of u.buckets u.cells)) (sym (same_image t rows waits)) has.covers;
  needed = has.needed;
}

pub doubled_ordered : {P M N : Type 0} (placing : P → ℕ → List ℕ → Place) (t : Table P M) (rows : List (ℕ × Held)) (u : Table P N) → AreStashRows t.buckets t.cells rows → IsDoubled placing (with_stash_rows t rows) u → IsDoubled placing t u
doubled_ordered placing t rows u waits doubled = record {
  placer = doubled.placer;
  buckets = doubled.buckets;
  rows = doubled.rows ∙ (rows_permuted t.cells (with_stash_rows t rows).cells waits.permutes waits.once).1;
  stash = let long = length_permutation t.cells (with_stash_rows t rows).cells waits.permutes in let less = doubled.stash in omega arith;
  room = doubled.room;
  covers = subst (λ (x : Image). CoversImage x (image_of u.buckets u.cells)) (same_image t rows waits) doubled.covers;
  needed = doubled.needed;
}

-- a row of the list is in its cell behind the slots
pub ordered_cell : (n : ℕ) (cs : List (Option Held)) (rows : List (ℕ × Held)) (at : ℕ) (row : ℕ × Held) → 4 * n ≤ length cs → at < length rows → row ≡ get_or rows at row → cell (take (4 * n) cs ++ map (λ row. Some row.1) rows) (4 * n + at) ≡ Some row.1
ordered_cell n cs rows at row wide below is =
    get_or-append_right (take (4 * n) cs) (map (λ row. Some row.1) rows) (4 * n) (4 * n + at) None (length-take-le (4 * n) cs wide) (omega arith)
    ∙ (ap (λ (i : ℕ). get_or (map (λ row. Some row.1) rows) i None) (let e : 4 * n + at - 4 * n ≡ at = omega arith in e)
    ∙ (get_or-map (λ row. Some row.1) rows at row None below ∙ ap (λ (row : ℕ × Held). Some row.1) (sym is)))

pub waits_sorted : (n : ℕ) (cs : List (Option Held)) (rows sorted : List (ℕ × Held)) → HoldsStash n cs rows → IsPermutation rows sorted → AreStashRows n cs sorted
waits_sorted n cs rows sorted holds permutes = record {
  once = holds.once;
  wide = holds.wide;
  permutes = subst (λ (l : List (Option Held)). IsPermutation l (take (4 * n) cs ++ map (λ row. Some row.1) sorted)) (sym holds.is)
      (IsPermutation-append_right (take (4 * n) cs) (map (λ row. Some row.1) rows) (map (λ row. Some row.1) sorted) (IsPermutation-map (λ row. Some row.1) rows sorted permutes));
}

-- a row of the list is one of the table's
pub ordered_within : {P M : Type 0} (t : Table P M) (rows : List (ℕ × Held)) (at : ℕ) → AreStashRows t.buckets t.cells rows → at < length rows → 4 * t.buckets + at < length (with_stash_rows t rows).cells
ordered_within t rows at waits below =
    let e = length-append (take (4 * t.buckets) t.cells) (map (λ row. Some row.1) rows) in let f = length-take-le (4 * t.buckets) t.cells waits.wide in let g = length-map rows (λ (row : ℕ × Held). Some row.1) in omega arith

pub ordered_end : {P M : Type 0} (t : Table P M) (rows : List (ℕ × Held)) (at : ℕ) → AreStashRows t.buckets t.cells rows → at ≡ length rows → 4 * t.buckets + at ≡ length (with_stash_rows t rows).cells
ordered_end t rows at waits end =
    let e = length-append (take (4 * t.buckets) t.cells) (map (λ row. Some row.1) rows) in let f = length-take-le (4 * t.buckets) t.cells waits.wide in let g = length-map rows (λ (row : ℕ × Held). Some row.1) in omega arith
