-- A put where no path led to an empty slot at first.
use Rattle.std.proofs.Common.{◌≡◌, ℕ, ◌-◌, ◌*◌, ◌<◌, ◌≤◌, List, [], ◌∷◌, ◌++◌, length, Option, Some, None, refl, sym, ap, ap₂, ◌∙◌, subst, arith}
use Rattle.std.specs.FinMap as map
use Rattle.std.specs.Option.{option_map}
use Rattle.std.proofs.lemmas.List.{get_or_append_left}
use Rattle.jc_place.specs.declared.place.Place.{Place}
use Rattle.jc_cuckoo.specs.declared.held.Held.{Held}
use Rattle.jc_cuckoo.specs.declared.held.Work.{Work}
use Rattle.jc_cuckoo.specs.Cells.{rows_in, held_place, first_bucket, second_bucket}
use Rattle.jc_rows.specs.Images.{Image, last_image}
use Rattle.jc_cuckoo.specs.Images.{CoversImage, AllKeep, image_of}
use Rattle.jc_cuckoo.specs.Search.{IsLastResort, IsCounted}
use Rattle.jc_cuckoo.specs.Table.{Table, Follows, TellsImage, Searches, SettlesRow, TellsImages, image, no_work}
use Rattle.jc_cuckoo.specs.Double.{Doubles, IsDoubled, NeedsStash}
use Rattle.jc_cuckoo.specs.Attempts.{Tries, TriesTwice}
use Rattle.jc_cuckoo.proofs.LastResort.{last_resort_alike}
use Rattle.jc_cuckoo.proofs.Queues.{full_pushed}

-- but for what was counted, and the room, the table is the same, and no image was told
pub record Same {P M : Type 0} (told : M → Option (List Image)) (a b : Table P M) : Type 0 where
  pub placer : b.placer ≡ a.placer
  pub cells : b.cells ≡ a.cells
  pub buckets : b.buckets ≡ a.buckets
  pub images : told b.mirror ≡ told a.mirror

image_same : {P M : Type 0} (told : M → Option (List Image)) (a b : Table P M) → Same told a b → image b ≡ image a
image_same told a b same = ap₂ image_of same.buckets same.cells

tells_before : {P M : Type 0} (told : M → Option (List Image)) (a b c : Table P M) (many : ℕ) → Same told a b → TellsImages told b c many → TellsImages told a c many
tells_before told a b c many same t = record {
  way = t.way;
  images = t.images ∙ ap (option_map (λ is. is ++ (t.way ++ image c ∷ []))) same.images;
  count = t.count;
  kept = subst (λ (l : List (Option Held)). AllKeep (rows_in l) (image a) t.way) same.cells (subst (λ (i : Image). AllKeep (rows_in b.cells) i t.way) (image_same told a b same) t.kept);
  covers = subst (λ (i : Image). CoversImage (last_image (i ∷ t.way)) (image c)) (image_same told a b same) t.covers;
  shows = t.shows;
}

-- a row was put at the end of the stash: one image
tells_stowed : {P M : Type 0} (told : M → Option (List Image)) (a b c : Table P M) → Same told a b → Follows told b c → CoversImage (image b) (image c) → TellsImages told a c 0
tells_stowed told a b c same follows covers = record {
  way = [];
  images = follows.images ∙ ap (option_map (λ is. is ++ image c ∷ [])) same.images;
  count = refl;
  kept = tt;
  covers = subst (λ (i : Image). CoversImage i (image c)) (image_same told a b same) covers;
  shows = follows.shows;
}

-- the same by what a table has
abbrev SearchesIn : (ℕ → List ℕ → Place) → ℕ → List (Option Held) → ℕ × List ℕ → Work → Work → Type 0
SearchesIn p n cells x from to = IsCounted p n cells (first_bucket p n x) (second_bucket p n x) from to

searches_before : {P M : Type 0} (placing : P → ℕ → List ℕ → Place) (told : M → Option (List Image)) (a b : Table P M) (x : ℕ × List ℕ) (from to : Work) → Same told a b → Searches placing b x from to → Searches placing a x from to
searches_before {P = P} placing told a b x from to same s =
    subst (λ (p : P). SearchesIn (placing p) a.buckets a.cells x from to) same.placer
    (subst (λ (n : ℕ). SearchesIn (placing b.placer) n a.cells x from to) same.buckets
    (subst (λ (l : List (Option Held)). SearchesIn (placing b.placer) b.buckets l x from to) same.cells s))

-- One search over a table that is the same as the first but for what was counted.

pub tries_settled : {P M : Type 0} (placing : P → ℕ → List ℕ → Place) (told : M → Option (List Image)) (a b c : Table P M) (h : Held) (x : ℕ × List ℕ) (from : Work) → held_place h ≡ x → Same told a b → Searches placing b (held_place h) from c.work → SettlesRow told b c h → Tries placing told x from a c
tries_settled placing told a b c h x from at same s settles = record {
  search = searches_before placing told a b x from c.work same (subst (λ (y : ℕ × List ℕ). Searches placing b y from c.work) at s);
  buckets = settles.buckets ∙ same.buckets;
  images = tells_before told a b c c.work.moves same settles.images;
}

-- a search led nowhere, and then a row was put at the end of the stash
pub tries_stowed : {P M : Type 0} (placing : P → ℕ → List ℕ → Place) (told : M → Option (List Image)) (a b c : Table P M) (h : Held) (x : ℕ × List ℕ) (from to : Work) → held_place h ≡ x → Searches placing a (held_place h) from to → c.work ≡ to → to.moves ≡ 0 → Same told a b → Follows told b c → CoversImage (image b) (image c) → Tries placing told x from a c
tries_stowed placing told a b c h x from to at s work none same follows covers = record {
  search = subst (λ (w : Work). Searches placing a x from w) (sym work) (subst (λ (y : ℕ × List ℕ). Searches placing a y from to) at s);
  buckets = follows.buckets ∙ same.buckets;
  images = subst (TellsImages told a c) (sym (ap (λ (w : Work). w.moves) work ∙ none)) (tells_stowed told a b c same follows covers);
}

-- no path led to an empty slot at first, and the buckets doubled
pub record Middle {P M : Type 0} (placing : P → ℕ → List ℕ → Place) (told : M → Option (List Image)) (a b c : Table P M) (x : ℕ × List ℕ) : Type 0 where
  pub same : Same told a b
  pub first : Searches placing a x no_work b.work
  pub none : IsLastResort (placing a.placer) a.buckets a.cells x
  pub work : c.work ≡ b.work
  pub allowed : Doubles b c
  pub doubled : IsDoubled placing b c
  pub image : TellsImage told b c

pub middle_of : {P M : Type 0} (placing : P → ℕ → List ℕ → Place) (told : M → Option (List Image)) (a b c : Table P M) (h : Held) (x : ℕ × List ℕ) → held_place h ≡ x → Same told a b → Searches placing a (held_place h) no_work b.work → IsLastResort (placing a.placer) a.buckets a.cells (held_place h)
    → c.work ≡ b.work → Doubles b c → IsDoubled placing b c → TellsImage told b c → Middle placing told a b c x
middle_of placing told a b c h x at same first none work allowed doubled image = record {
  same = same;
  first = subst (λ (y : ℕ × List ℕ). Searches placing a y no_work b.work) at first;
  none = subst (IsLastResort (placing a.placer) a.buckets a.cells) at none;
  work = work;
  allowed = allowed;
  doubled = doubled;
  image = image;
}

doubles_same : {P M : Type 0} (told : M → Option (List Image)) (a b c : Table P M) → Same told a b → Doubles b c → Doubles a c
doubles_same told a b c same doubles = record {
  twice = doubles.twice ∙ ap (λ (n : ℕ). 2 * n) same.buckets;
  below = subst (λ (n : ℕ). n < 65536) same.buckets doubles.below;
  half = subst (λ (n : ℕ). 2 * n ≤ map.len (rows_in a.cells)) same.buckets (subst (λ (l : List (Option Held)). 2 * b.buckets ≤ map.len (rows_in l)) same.cells doubles.half);
}

doubled_same : {P M : Type 0} (placing : P → ℕ → List ℕ → Place) (told : M → Option (List Image)) (a b c : Table P M) → Same told a b → b.room ≡ a.room → IsDoubled placing b c → IsDoubled placing a c
doubled_same {P = P} placing told a b c same room d = record {
  placer = d.placer ∙ same.placer;
  buckets = d.buckets ∙ ap (λ (n : ℕ). 2 * n) same.buckets;
  rows = d.rows ∙ ap rows_in same.cells;
  stash = subst (λ (s : ℕ). length c.cells - 4 * c.buckets ≤ s) (ap₂ (λ (l : List (Option Held)) (n : ℕ). length l - 4 * n) same.cells same.buckets) d.stash;
  room = subst (λ (r : ℕ). r ≤ c.room) room d.room;
  covers = subst (λ (i : Image). CoversImage i (image c)) (image_same told a b same) d.covers;
  needed = subst (λ (p : P). NeedsStash (placing p) c.buckets c.cells) same.placer d.needed;
}

pub tries_twice : {P M : Type 0} (placing : P → ℕ → List ℕ → Place) (told : M → Option (List Image)) (a b c e : Table P M) (x : ℕ × List ℕ) → Middle placing told a b c x → b.room ≡ a.room → Tries placing told x c.work c e → TriesTwice placing told x a e
tries_twice placing told a b c e x m room second = record {
  middle = c;
  first = subst (λ (w : Work). Searches placing a x no_work w) (sym m.work) m.first;
  none = m.none;
  allowed = doubles_same told a b c m.same m.allowed;
  doubled = doubled_same placing told a b c m.same room m.doubled;
  image = record { images = m.image.images ∙ ap (option_map (λ is. is ++ image c ∷ [])) m.same.images; shows = m.image.shows };
  second = second;
}

-- the stash is still the last resort with one row more in it
pub resort_stowed : (p q : ℕ → List ℕ → Place) (n m : ℕ) (cs ds : List (Option Held)) (h : Held) (x y : ℕ × List ℕ) → 4 * n ≤ length cs → IsLastResort p n cs x → q ≡ p → m ≡ n → ds ≡ cs ++ Some h ∷ [] → y ≡ x → IsLastResort q m ds y
resort_stowed p q n m cs ds h x y wide last same buckets cells place =
    let pushed = last_resort_alike p n cs (cs ++ Some h ∷ []) (first_bucket p n x) (second_bucket p n x) (λ i low. get_or_append_left cs (Some h ∷ []) None i (omega arith)) (λ b f. full_pushed cs h b f) last in
    subst (λ (f : ℕ → List ℕ → Place). IsLastResort f m ds y) (sym same)
    (subst (λ (k : ℕ). IsLastResort p k ds y) (sym buckets)
    (subst (λ (l : List (Option Held)). IsLastResort p n l y) (sym cells)
    (subst (λ (z : ℕ × List ℕ). IsLastResort p n (cs ++ Some h ∷ []) z) (sym place) pushed)))
