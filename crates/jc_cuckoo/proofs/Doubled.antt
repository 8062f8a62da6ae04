-- A table of twice as many buckets has the rows that were brought into it.
use Rattle.std.proofs.Common.{◌≡◌, ℕ, ◌+◌, ◌*◌, ◌<◌, ◌≤◌, List, [], ◌∷◌, ◌++◌, length, set, take, replicate, Option, Some, None, sym, ap, ap₂, ◌∙◌, subst, arith, inl, inr}
use Rattle.std.specs.FinMap as map
use Rattle.std.specs.Option.{option_map}
use Rattle.std.proofs.lemmas.Bool.Decides.{eqb_tells}
use Rattle.std.proofs.lemmas.List.{get_or-take, get_or_past, get_or-set_same, get_or-set_other, length-replicate}
use Rattle.jc_model.specs.declared.config.Expiry.{Expiry}
use Rattle.jc_cuckoo.specs.declared.held.Held.{Held}
use Rattle.jc_cuckoo.specs.Cells.{held_place, held_row, cell, rows_in, first_bucket, second_bucket, IsFull}
use Rattle.jc_rows.specs.Images.{Shown, image_slot}
use Rattle.jc_cuckoo.specs.Images.{CoversImage, image_of, shown_row}
use Rattle.jc_cuckoo.specs.Table.{Table}
use Rattle.jc_place.specs.declared.place.Place.{Place}
use Rattle.jc_cuckoo.specs.Double.{IsAdded, IsBlankFrom, IsDoubled, IsFilled, HasSlots, HasStash, NeedsStash}
use Rattle.jc_cuckoo.proofs.Blank.{blank_on}
use Rattle.jc_cuckoo.proofs.Cells.{IsOnce, Found, get_some, get_found}
use Rattle.jc_cuckoo.proofs.Changes.{inside}
use Rattle.jc_cuckoo.proofs.Covers.{covers_more}
use Rattle.jc_cuckoo.proofs.Empty.{rows_none, none_there}
use Rattle.jc_cuckoo.proofs.Queues.{full_pushed}
use Rattle.jc_cuckoo.proofs.Sound.{changed_push}
use Rattle.jc_cuckoo.proofs.Taken.{taken_none, taken_some, taken_absent, taken_all, once_taken}
use Rattle.jc_cuckoo.proofs.Told.{behind, slot_is}

-- one cell more

pub rows_brought : {P M N : Type 0} (t : Table P M) (at : ℕ) (u v : Table P N) (h : Held) → IsOnce t.cells → at < length t.cells → cell t.cells at ≡ Some h → rows_in u.cells ≡ rows_in (take at t.cells) → IsAdded u v h → rows_in v.cells ≡ rows_in (take (at + 1) t.cells)
rows_brought t at u v h once below is rows added =
    added.rows ∙ (ap (λ m. map.insert m (held_place h) (held_row h)) rows ∙ sym (taken_some t.cells at h below once is))

pub brought_absent : (cs ds : List (Option Held)) (at : ℕ) (h : Held) → IsOnce cs → at < length cs → cell cs at ≡ Some h → rows_in ds ≡ rows_in (take at cs) → map.get (rows_in ds) (held_place h) ≡ None
brought_absent cs ds at h once below is rows = ap (λ m. map.get m (held_place h)) rows ∙ taken_absent cs at h below once is

pub slot_brought : {P M N : Type 0} (t : Table P M) (at : ℕ) (u v : Table P N) (h : Held) → IsOnce t.cells → at < length t.cells → cell t.cells at ≡ Some h → HasSlots t at u → IsAdded u v h → length v.cells ≡ 8 * t.buckets → IsBlankFrom t.buckets v.cells (at + 1) → HasSlots t (at + 1) v
slot_brought t at u v h once below is has added slots blank = record {
  placer = added.placer ∙ has.placer;
  buckets = added.buckets ∙ has.buckets;
  rows = rows_brought t at u v h once below is has.rows added;
  slots = slots;
  blank = blank;
}

pub slot_passed : {P M N : Type 0} (t : Table P M) (at : ℕ) (u : Table P N) → at < length t.cells → cell t.cells at ≡ None → HasSlots t at u → HasSlots t (at + 1) u
slot_passed t at u below is has = record {
  placer = has.placer;
  buckets = has.buckets;
  rows = has.rows ∙ sym (taken_none t.cells at below is);
  slots = has.slots;
  blank = blank_on t.buckets at u.cells has.blank;
}

pub stash_brought : {P M N : Type 0} (placing : P → ℕ → List ℕ → Place) (t : Table P M) (at : ℕ) (u v : Table P N) (h : Held) → IsOnce t.cells → at < length t.cells → cell t.cells at ≡ Some h → HasStash placing t at u → IsAdded u v h → (NeedsStash (placing u.placer) u.buckets u.cells → NeedsStash (placing u.placer) v.buckets v.cells) → HasStash placing t (at + 1) v
stash_brought {P = P} placing t at u v h once below is has added needed = record {
  placer = added.placer ∙ has.placer;
  buckets = added.buckets ∙ has.buckets;
  rows = rows_brought t at u v h once below is has.rows added;
  short = let short = has.short in let longer = added.longer in omega arith;
  covers = covers_more (image_of t.buckets t.cells) (image_of u.buckets u.cells) (image_of v.buckets v.cells) has.covers added.covers;
  needed = subst (λ (p : P). NeedsStash (placing p) v.buckets v.cells) has.placer (needed (subst (λ (p : P). NeedsStash (placing p) u.buckets u.cells) (sym has.placer) has.needed));
}

-- none, all slots, all cells

no_slots : (n at : ℕ) (cs ds : List (Option Held)) → ds ≡ replicate (8 * n) None → (rows_in ds ≡ rows_in (take 0 cs)) × (length ds ≡ 8 * n) × IsBlankFrom n ds at
unfolding rows_in
no_slots n at cs ds empty = (
  ap rows_in empty ∙ rows_none (8 * n),
  ap length empty ∙ length-replicate (8 * n) None,
  record { blank = λ j a b. (ap (λ l. cell l j) empty ∙ none_there (8 * n) j, ap (λ l. cell l (4 * n + j)) empty ∙ none_there (8 * n) (4 * n + j)) },
)

pub slots_first : {P M N : Type 0} (t : Table P M) (u : Table P N) → u.placer ≡ t.placer → u.buckets ≡ 2 * t.buckets → u.cells ≡ replicate (8 * t.buckets) None → HasSlots t 0 u
slots_first t u placer buckets empty = let first = no_slots t.buckets 0 t.cells u.cells empty in record {
  placer = placer;
  buckets = buckets;
  rows = first.0;
  slots = first.1;
  blank = first.2;
}

-- Which rows stand in the stash.

no_stash : (p : ℕ → List ℕ → Place) (n : ℕ) (cs : List (Option Held)) → length cs ≡ 4 * n → NeedsStash p n cs
no_stash p n cs long = record { full = λ i h past is. (let e : Some h ≡ None = sym is ∙ get_or_past cs i None (omega arith) in absurd cc) }

full_set : (cs : List (Option Held)) (at b : ℕ) (h : Held) → at < length cs → IsFull cs b → IsFull (set cs at (Some h)) b
full_set cs at b h below full = record {
  full = λ i low high none. elim (eqb_tells i at) [
    | inl same ↦ (let e : Some h ≡ None = sym (get_or-set_same cs at (Some h) None below) ∙ (ap (cell (set cs at (Some h))) (sym same.1) ∙ none) in absurd cc)
    | inr other ↦ full.full i low high (sym (get_or-set_other cs at i (Some h) None other.1) ∙ none)
  ];
}

pub full_at : (cs : List (Option Held)) (b d : ℕ) → b ≡ d → IsFull cs b → IsFull cs d
full_at cs b d same full = subst (IsFull cs) same full

pub needs_filled : (p : ℕ → List ℕ → Place) (n m b : ℕ) (cs ds : List (Option Held)) (h : Held) → m ≡ n → b < n → 4 * n ≤ length cs → IsFilled cs ds b h → NeedsStash p n cs → NeedsStash p m ds
needs_filled p n m b cs ds h buckets below wide f needs =
    let above = f.first.vacant.above in let under = f.first.vacant.below in
    subst (λ (k : ℕ). NeedsStash p k ds) (sym buckets) (subst (NeedsStash p n) (sym f.cells) (record {
      full = λ i k past is. (
          let old = needs.full i k past (sym (get_or-set_other cs f.at i (Some h) None (λ e. omega arith)) ∙ is) in
          (full_set cs f.at (first_bucket p n (held_place k)) h (omega arith) old.0, full_set cs f.at (second_bucket p n (held_place k)) h (omega arith) old.1));
    }))

pub needs_stowed : (p : ℕ → List ℕ → Place) (n m : ℕ) (cs ds : List (Option Held)) (h : Held) → m ≡ n → ds ≡ cs ++ Some h ∷ [] → IsFull cs (first_bucket p n (held_place h)) → IsFull cs (second_bucket p n (held_place h)) → NeedsStash p n cs → NeedsStash p m ds
needs_stowed p n m cs ds h buckets cells first second needs =
    subst (λ (k : ℕ). NeedsStash p k ds) (sym buckets) (subst (NeedsStash p n) (sym cells) (record {
      full = λ i k past is. elim (eqb_tells i (length cs)) [
        | inl last ↦ (let both : Some h ≡ Some k = sym (changed_push cs (Some h)).now ∙ (ap (cell (cs ++ Some h ∷ [])) (sym last.1) ∙ is) in let one : h ≡ k = cc in
            (full_pushed cs h (first_bucket p n (held_place k)) (subst (λ (y : Held). IsFull cs (first_bucket p n (held_place y))) one first), full_pushed cs h (second_bucket p n (held_place k)) (subst (λ (y : Held). IsFull cs (second_bucket p n (held_place y))) one second)))
        | inr other ↦ (let old = needs.full i k past (sym ((changed_push cs (Some h)).rest i other.1) ∙ is) in
            (full_pushed cs h (first_bucket p n (held_place k)) old.0, full_pushed cs h (second_bucket p n (held_place k)) old.1))
      ];
    }))

-- each row of the first cells stands somewhere

shown_again : (m : ℕ) (ds : List (Option Held)) (h : Held) (s : Shown) → length ds ≡ 4 * m → shown_row h ≡ s → Found ds (held_place h) (held_row h) → (j : ℕ) × (image_slot (image_of m ds) j ≡ Some s)
shown_again m ds h s long shows f =
    let below = inside ds f.stands.at f.held f.stands.is in
    let same : shown_row f.held ≡ s = ap₂ (λ (x : ℕ × List ℕ) (y : ℕ × Expiry). (x, y.1)) f.at f.gives ∙ shows in
    (f.stands.at, slot_is m ds f.stands.at (omega arith) (omega arith) ∙ (ap (option_map shown_row) f.stands.is ∙ ap (λ (x : Shown). Some x) same))

covers_slots : (n : ℕ) (cs ds : List (Option Held)) → IsOnce cs → 4 * n ≤ length cs → rows_in ds ≡ rows_in (take (4 * n) cs) → length ds ≡ 8 * n → CoversImage (image_of n cs) (image_of (2 * n) ds)
covers_slots n cs ds once wide rows slots = record {
  kept = λ i s is. (
      let b = behind n cs i s wide is in
      let taken : cell (take (4 * n) cs) i ≡ Some b.held = get_or-take (4 * n) cs i None b.below ∙ b.is in
      let held : map.get (rows_in ds) (held_place b.held) ≡ Some (held_row b.held) = ap (λ m. map.get m (held_place b.held)) rows ∙ get_some (take (4 * n) cs) i b.held (once_taken cs (4 * n) wide once) taken in
      shown_again (2 * n) ds b.held s (omega arith) b.shows (get_found ds (held_place b.held) (held_row b.held) held));
}

pub slots_all : {P M N : Type 0} (placing : P → ℕ → List ℕ → Place) (t : Table P M) (at : ℕ) (u : Table P N) → IsOnce t.cells → 4 * t.buckets ≤ length t.cells → at ≡ 4 * t.buckets → HasSlots t at u → HasStash placing t (4 * t.buckets) u
slots_all placing t at u once wide end has = record {
  placer = has.placer;
  buckets = has.buckets;
  rows = rows;
  short = let slots = has.slots in omega arith;
  covers = subst (λ (m : ℕ). CoversImage (image_of t.buckets t.cells) (image_of m u.cells)) (sym has.buckets) (covers_slots t.buckets t.cells u.cells once wide rows has.slots);
  needed = no_stash (placing t.placer) u.buckets u.cells (let slots = has.slots in let buckets = has.buckets in omega arith);
}
  where
    rows : rows_in u.cells ≡ rows_in (take (4 * t.buckets) t.cells)
    rows = has.rows ∙ ap (λ (m : ℕ). rows_in (take m t.cells)) end

pub stash_all : {P M N : Type 0} (placing : P → ℕ → List ℕ → Place) (t : Table P M) (at total : ℕ) (u : Table P N) → at ≡ length t.cells → total ≤ u.room + length u.cells → 4 * t.buckets + length t.cells + t.room ≤ total → HasStash placing t at u → IsDoubled placing t u
stash_all placing t at total u end same enough has = let short = has.short in let buckets = has.buckets in record {
  placer = has.placer;
  buckets = has.buckets;
  rows = has.rows ∙ taken_all t.cells at (omega arith);
  stash = omega arith;
  room = omega arith;
  covers = has.covers;
  needed = has.needed;
}
