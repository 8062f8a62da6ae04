-- What the index of the stash lists, when a row comes, goes or moves.
use Rattle.std.proofs.Common.{◌≡◌, ◌≢◌, ℕ, ◌*◌, ◌<◌, ◌≤◌, ◌⊎◌, ◌+◌, [], ◌∷◌, ◌++◌, length, set, replicate, None, ap, ◌∙◌, inl, inr, arith, Bool, true, false, ◌&&◌, List, ◌-◌, Option, Some, is_some, refl, sym, ap₂}
use Rattle.std.proofs.lemmas.Bool.{eqb-true}
use Rattle.std.proofs.lemmas.Slice.Eq.{bytes_eq-Decides}
use Rattle.std.specs.Prelude.{nat_eq, IsSome, IsOk, OnOk, Result, Ok, Err}
use Rattle.std.specs.Str.{bytes_eq}
use Rattle.std.specs.FinMap as map
use Rattle.std.proofs.lemmas.Bool.Decides.{eqb_tells}
use Rattle.jc_cuckoo.specs.declared.held.Held.{Held}
use Rattle.jc_cuckoo.specs.declared.index.StashIndex.{StashIndex}
use Rattle.jc_cuckoo.specs.Cells.{DropsCell, IsFoundBetween, cell, held_place, held_row, rows_in}
use Rattle.jc_place.specs.declared.keyed.KeyedState.{KeyedState}
use Rattle.jc_cuckoo.specs.Index.{same_place, cell_in_stash, index_hasher, IsAsBefore, IsElsewhereAsBefore, IsIndexed, IsOfNone}
use Rattle.jc_cuckoo.proofs.Cells.{IsOnce, get_some}
use Rattle.jc_cuckoo.proofs.Empty.{none_there}
use Rattle.jc_cuckoo.proofs.Sound.{changed_push, changed_set, inside}

both : (a b : Bool) → a && b ≡ true → (a ≡ true) × (b ≡ true)
both true true h = (refl, refl)
both true false h = cc
both false b h = cc

untrue : (b : Bool) → (b ≡ true → ⊥) → b ≡ false
untrue true h = absurd (h refl)
untrue false h = refl

pub places_differ : (x y : ℕ × List ℕ) → y ≢ x → same_place x y ≡ false
places_differ x y other = untrue (same_place x y) (λ same. (let parts = both (nat_eq x.0 y.0) (bytes_eq x.1 y.1) same in other (ap₂ (λ (a : ℕ) (b : List ℕ). (a, b)) (sym (eqb-true x.0 y.0 parts.0)) (sym ((bytes_eq-Decides x.1 y.1).0 parts.1)))))

-- two places are one, or differ
keys_decide : (a b : List ℕ) (same : Bool) → bytes_eq a b ≡ same → (a ≡ b) ⊎ (a ≢ b)
keys_decide a b true is = inl ((bytes_eq-Decides a b).0 is)
keys_decide a b false is = inr (λ e. (let never : true ≡ false = sym ((bytes_eq-Decides a b).1 e) ∙ is in cc))

places_decide : (x y : ℕ × List ℕ) → (x ≡ y) ⊎ (x ≢ y)
places_decide x y = elim (eqb_tells x.0 y.0) [
  | inl one ↦ elim (keys_decide x.1 y.1 (bytes_eq x.1 y.1) refl) [
    | inl same ↦ inl (ap₂ (λ (a : ℕ) (b : List ℕ). (a, b)) one.1 same)
    | inr away ↦ inr (λ e. away (ap (λ (p : ℕ × List ℕ). p.1) e))
  ]
  | inr away ↦ inr (λ e. away.1 (ap (λ (p : ℕ × List ℕ). p.0) e))
]

pub where_ok : {T E P : Type 0} (r : Result T E) → IsOk r → OnOk r P → P
where_ok (Ok x) is p = p
where_ok (Err e) is p = cc

-- a row that stands in the same cell of other cells
still : {cs ds : List (Option Held)} {m j : ℕ} {place : ℕ × List ℕ} → IsFoundBetween cs m (length cs) place j → cell ds j ≡ cell cs j → IsFoundBetween ds m (length ds) place j
still {ds = ds} {j = j} f same = record { above = f.above; below = inside ds j f.held (same ∙ f.is); held = f.held; is = same ∙ f.is; at = f.at }

-- The index stays right.

-- where nothing is stored
pub indexed_none : (keyed : KeyedState) (n : ℕ) (cs : List (Option Held)) (m : StashIndex) → cs ≡ replicate (4 * n) None → IsOfNone m → index_hasher m ≡ keyed → IsIndexed keyed n cs m
indexed_none keyed n cs m empty none under = record {
  hasher = under;
  listed = λ place i is. (let e : Some i ≡ None = sym is ∙ none place in cc);
  stashed = λ i h behind is. (let e : Some h ≡ None = sym is ∙ (ap (λ l. cell l i) empty ∙ none_there (4 * n) i) in absurd cc);
}

-- where the index tells the same
pub indexed_same : {keyed : KeyedState} {n : ℕ} {cs : List (Option Held)} {m m' : StashIndex} → IsAsBefore m m' → IsIndexed keyed n cs m → IsIndexed keyed n cs m'
indexed_same before indexed = record {
  hasher = before.hasher ∙ indexed.hasher;
  stashed = λ i h behind is. before.same (held_place h) ∙ indexed.stashed i h behind is;
  listed = λ place i is. indexed.listed place i (sym (before.same place) ∙ is);
}

-- where a slot changed
pub indexed_set : {keyed : KeyedState} {n : ℕ} {cs : List (Option Held)} {m : StashIndex} (i : ℕ) (v : Option Held) → i < 4 * n → i < length cs → IsIndexed keyed n cs m → IsIndexed keyed n (set cs i v) m
indexed_set {cs = cs} i v low within indexed = record {
  hasher = indexed.hasher;
  stashed = λ j h behind is. indexed.stashed j h behind (sym ((changed_set cs i v within).rest j (λ e. omega arith)) ∙ is);
  listed = λ place j is. (let f = indexed.listed place j is in still f ((changed_set cs i v within).rest j (λ e. (let above = f.above in omega arith))));
}

-- where a row of the stash is another one of the same place
pub indexed_replaced : {keyed : KeyedState} {n : ℕ} {cs : List (Option Held)} {m : StashIndex} (i : ℕ) (h k : Held) → 4 * n ≤ i → cell cs i ≡ Some k → held_place h ≡ held_place k → IsIndexed keyed n cs m → IsIndexed keyed n (set cs i (Some h)) m
indexed_replaced {cs = cs} {m = m} i h k behind is same indexed = record {
  hasher = indexed.hasher;
  stashed = λ j a after at. elim (eqb_tells j i) [
    | inl one ↦ (
        let e : Some a ≡ Some h = sym at ∙ (ap (cell (set cs i (Some h))) one.1 ∙ (changed_set cs i (Some h) (inside cs i k is)).now) in
        let f : a ≡ h = cc in
        ap (cell_in_stash m) (ap held_place f ∙ same) ∙ (indexed.stashed i k behind is ∙ ap (λ (x : ℕ). Some x) (sym one.1)))
    | inr away ↦ indexed.stashed j a after (sym ((changed_set cs i (Some h) (inside cs i k is)).rest j away.1) ∙ at)
  ];
  listed = λ place j told. (let f = indexed.listed place j told in elim (eqb_tells j i) [
    | inl one ↦ (
        let e : Some f.held ≡ Some k = sym f.is ∙ (ap (cell cs) one.1 ∙ is) in
        let g : f.held ≡ k = cc in
        let now : cell (set cs i (Some h)) j ≡ Some h = ap (cell (set cs i (Some h))) one.1 ∙ (changed_set cs i (Some h) (inside cs i k is)).now in
        record { above = f.above; below = inside _ j h now; held = h; is = now; at = same ∙ (sym (ap held_place g) ∙ f.at) })
    | inr away ↦ still f ((changed_set cs i (Some h) (inside cs i k is)).rest j away.1)
  ]);
}

-- where a row came to the stash
pub indexed_pushed : {keyed : KeyedState} {n : ℕ} {cs : List (Option Held)} {m m' : StashIndex} (h : Held) → 4 * n ≤ length cs → IsOnce cs → map.get (rows_in cs) (held_place h) ≡ None → cell_in_stash m' (held_place h) ≡ Some (length cs) → IsElsewhereAsBefore (held_place h) m m' → IsIndexed keyed n cs m → IsIndexed keyed n (cs ++ Some h ∷ []) m'
indexed_pushed {cs = cs} {m' = m'} h wide once absent added others indexed = record {
  hasher = others.hasher ∙ indexed.hasher;
  stashed = λ j k behind is. elim (eqb_tells j (length cs)) [
    | inl one ↦ (
        let e : Some k ≡ Some h = sym is ∙ (ap (cell (cs ++ Some h ∷ [])) one.1 ∙ (changed_push cs (Some h)).now) in
        let f : k ≡ h = cc in
        ap (cell_in_stash m') (ap held_place f) ∙ (added ∙ ap (λ (x : ℕ). Some x) (sym one.1)))
    | inr away ↦ (
        let there : cell cs j ≡ Some k = sym ((changed_push cs (Some h)).rest j away.1) ∙ is in
        others.same (held_place k) (λ same. (let e : Some (held_row k) ≡ None = sym (get_some cs j k once there) ∙ (ap (map.get (rows_in cs)) same ∙ absent) in cc)) ∙ indexed.stashed j k behind there)
  ];
  listed = λ place j told. elim (places_decide place (held_place h)) [
    | inl one ↦ (
        let e : Some j ≡ Some (length cs) = sym told ∙ (ap (cell_in_stash m') one ∙ added) in
        let last : j ≡ length cs = cc in
        let now : cell (cs ++ Some h ∷ []) j ≡ Some h = ap (cell (cs ++ Some h ∷ [])) last ∙ (changed_push cs (Some h)).now in
        record { above = omega arith; below = inside _ j h now; held = h; is = now; at = sym one })
    | inr away ↦ (
        let f = indexed.listed place j (sym (others.same place away) ∙ told) in let below = f.below in
        still f ((changed_push cs (Some h)).rest j (λ e. omega arith)))
  ];
}

-- a row of another place stands in another cell
apart : {cs : List (Option Held)} {n j : ℕ} {place : ℕ × List ℕ} (i : ℕ) (h : Held) → IsFoundBetween cs n (length cs) place j → cell cs i ≡ Some h → place ≢ held_place h → j ≢ i
apart {cs = cs} i h f is off e = (let s : Some f.held ≡ Some h = sym f.is ∙ (ap (cell cs) e ∙ is) in let g : f.held ≡ h = cc in off (sym f.at ∙ ap held_place g))

-- a row that stays is not the last one, where none took the place of the one that went
short : {cs ds : List (Option Held)} {n i j : ℕ} {place : ℕ × List ℕ} → i < length cs → DropsCell cs ds i → cell ds i ≡ None → IsFoundBetween cs n (length cs) place j → j ≢ i → j + 1 < length cs
short {cs = cs} {ds = ds} {i = i} {j = j} low dropped end f away = elim (eqb_tells (j + 1) (length cs)) [
  | inl one ↦ (
      let same = one.1 in
      let last : length cs - 1 ≡ j = omega arith in
      let e : None ≡ Some f.held = sym end ∙ (dropped.moved (omega arith) ∙ (ap (cell cs) last ∙ f.is)) in
      cc)
  | inr off ↦ (let below = f.below in let o = off.1 in omega arith)
]

-- where the last row left the stash
pub indexed_dropped : {keyed : KeyedState} {n : ℕ} {cs ds : List (Option Held)} {m m' : StashIndex} (i : ℕ) (h : Held) → IsOnce cs → cell cs i ≡ Some h → DropsCell cs ds i → cell_in_stash m' (held_place h) ≡ None → IsElsewhereAsBefore (held_place h) m m' → cell ds i ≡ None → IsIndexed keyed n cs m → IsIndexed keyed n ds m'
indexed_dropped {cs = cs} {ds = ds} {m' = m'} i h once is dropped gone others end indexed = record {
  hasher = others.hasher ∙ indexed.hasher;
  stashed = λ j k behind at.
      let low = inside ds j k at in let shorter = dropped.shorter in
      let away : j ≢ i = λ e. (let never : Some k ≡ None = sym at ∙ (ap (cell ds) e ∙ end) in cc) in
      let there : cell cs j ≡ Some k = sym (dropped.rest j away (omega arith)) ∙ at in
      others.same (held_place k) (λ same. away (once j i k h there is same)) ∙ indexed.stashed j k behind there;
  listed = λ place j told. elim (places_decide place (held_place h)) [
    | inl one ↦ (let e : Some j ≡ None = sym told ∙ (ap (cell_in_stash m') one ∙ gone) in cc)
    | inr off ↦ (
        let f = indexed.listed place j (sym (others.same place off) ∙ told) in
        let away = apart i h f is off in
        still f (dropped.rest j away (short (inside cs i h is) dropped end f away)))
  ];
}

-- where the last one, another, took its place
pub indexed_moved : {keyed : KeyedState} {n : ℕ} {cs ds : List (Option Held)} {m m'' : StashIndex} (m' : StashIndex) (i : ℕ) (h k : Held) → IsOnce cs → cell cs i ≡ Some h → 4 * n ≤ i → DropsCell cs ds i → cell_in_stash m' (held_place h) ≡ None → IsElsewhereAsBefore (held_place h) m m' → cell ds i ≡ Some k → cell_in_stash m'' (held_place k) ≡ Some i → IsElsewhereAsBefore (held_place k) m' m'' → IsIndexed keyed n cs m → IsIndexed keyed n ds m''
indexed_moved {cs = cs} {ds = ds} {m'' = m''} m' i h k once is behind dropped gone others moved now rest indexed = record {
  hasher = rest.hasher ∙ (others.hasher ∙ indexed.hasher);
  stashed = λ j a after at. elim (eqb_tells j i) [
    | inl one ↦ (
        let e : Some a ≡ Some k = sym at ∙ (ap (cell ds) one.1 ∙ moved) in
        let f : a ≡ k = cc in
        ap (cell_in_stash m'') (ap held_place f) ∙ (now ∙ ap (λ (x : ℕ). Some x) (sym one.1)))
    | inr away ↦ (
        let low = inside ds j a at in let under = inside ds i k moved in let shorter = dropped.shorter in
        let last : cell cs (length cs - 1) ≡ Some k = sym (dropped.moved (omega arith)) ∙ moved in
        let there : cell cs j ≡ Some a = sym (dropped.rest j away.1 (omega arith)) ∙ at in
        rest.same (held_place a) (λ same. (let e : j ≡ length cs - 1 = once j (length cs - 1) a k there last same in omega arith))
        ∙ (others.same (held_place a) (λ same. away.1 (once j i a h there is same)) ∙ indexed.stashed j a after there))
  ];
  listed = λ place j told. elim (places_decide place (held_place k)) [
    | inl one ↦ (
        let e : Some j ≡ Some i = sym told ∙ (ap (cell_in_stash m'') one ∙ now) in
        let same : j ≡ i = cc in
        let there : cell ds j ≡ Some k = ap (cell ds) same ∙ moved in
        record { above = omega arith; below = inside ds j k there; held = k; is = there; at = sym one })
    | inr off ↦ (
        let before = sym (rest.same place off) ∙ told in
        elim (places_decide place (held_place h)) [
          | inl one ↦ (let e : Some j ≡ None = sym before ∙ (ap (cell_in_stash m') one ∙ gone) in cc)
          | inr out ↦ (
              let f = indexed.listed place j (sym (others.same place out) ∙ before) in
              let under = inside ds i k moved in let shorter = dropped.shorter in let below = f.below in
              let last : cell cs (length cs - 1) ≡ Some k = sym (dropped.moved (omega arith)) ∙ moved in
              let away = apart i h f is out in
              let inner = apart (length cs - 1) k f last off in
              still f (dropped.rest j away (omega arith)))
        ])
  ];
}

-- a row that moved was listed
pub listed_moved : {keyed : KeyedState} {n : ℕ} {cs ds : List (Option Held)} {m : StashIndex} (m' : StashIndex) (i : ℕ) (h k : Held) → 4 * n ≤ i → IsOnce cs → cell cs i ≡ Some h → DropsCell cs ds i → IsElsewhereAsBefore (held_place h) m m' → cell ds i ≡ Some k → IsIndexed keyed n cs m → IsSome (cell_in_stash m' (held_place k))
listed_moved {cs = cs} {ds = ds} m' i h k behind once is dropped others moved indexed =
    let under = inside ds i k moved in let shorter = dropped.shorter in
    let last : cell cs (length cs - 1) ≡ Some k = sym (dropped.moved (omega arith)) ∙ moved in
    ap is_some (others.same (held_place k) (λ same. (let e : length cs - 1 ≡ i = once (length cs - 1) i k h last is same in omega arith)) ∙ indexed.stashed (length cs - 1) k (omega arith) last)
