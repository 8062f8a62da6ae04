-- Where a key lies in one of two buckets, these and the count decide.
use Rattle.std.proofs.Common.{◌≡◌, ◌⊎◌, ℕ, zero, suc, ◌+◌, ◌-◌, ◌*◌, ◌/◌, ◌%◌, ◌<◌, ◌&&◌, ◌==◌, Bool, true, false, List, [], ◌∷◌, ◌≤◌, length, take, drop, get_or, slice_get, if◌then◌else◌, Option, Some, None, refl, sym, ap, ◌∙◌, inl, inr, ⊎_elim, arith, eq-eqb, eqb-true}
use Rattle.std.specs.Str.{bytes_eq}
use Rattle.std.proofs.lemmas.Slice.Eq.{bytes_eq-Decides}
use Rattle.jc_model.specs.State.{live}
use Rattle.jc_rows.specs.Images.{Shown}
use Rattle.jc_place.specs.declared.place.Place.{Place}
use Rattle.jc_cuckoo.specs.Cells.{first_bucket, second_bucket}
use Rattle.jc_index.specs.Layout.{bucket_slots, bucket_words, slot_place, slot_words}
use Rattle.jc_index.specs.Spelling.{IsLawful, buckets_of, slot_in, slots_in, words_of_slot, words_of_image, image_in, slot_spelt_at, slot_words_at, words_at}
use Rattle.jc_index.specs.Found.{seen_in_slot, first_answer, first_seen, answer_with_stash, found_in_image}
use Rattle.jc_index.specs.Passes.{IsSpeltAt, IsSpeltIn, slots_in_bucket}
use Rattle.jc_index.proofs.Coding.{drop_drop, long_slots, slot_taken}

abbrev Slot : Type 0
Slot = Option Shown

-- a slot that there is
pub got : (xs : List Slot) (k : ℕ) (x : Slot) → slice_get xs k ≡ Some x → get_or xs k None ≡ x
got [] k x e = absurd cc
got (y ∷ xs) zero x e = cc
got (y ∷ xs) (suc k) x e = got xs k x e

-- words from a place on
words_behind : (x : ℕ) (xs : List ℕ) (p n : ℕ) → words_at (x ∷ xs) (suc p) n ≡ words_at xs p n
words_behind x xs p zero = refl
words_behind x xs p (suc n) = ap (λ (l : List ℕ). get_or xs p 0 ∷ l) (words_behind x xs (suc p) n)

words_first : (xs : List ℕ) (n : ℕ) → n ≤ length xs → words_at xs 0 n ≡ take n xs
words_first xs zero inside = refl
words_first [] (suc n) inside = absurd (omega arith)
words_first (x ∷ xs) (suc n) inside = ap (λ (l : List ℕ). x ∷ l) (words_behind x xs 0 n ∙ words_first xs n (omega arith))

words_from : (xs : List ℕ) (p n : ℕ) → p + n ≤ length xs → words_at xs p n ≡ take n (drop p xs)
words_from xs zero n inside = words_first xs n (omega (arith, inside))
words_from [] (suc p) n inside = absurd (omega (arith, inside))
words_from (x ∷ xs) (suc p) n inside = words_behind x xs p n ∙ words_from xs p n (omega (arith, inside))

-- those of a slot
slot_from : (words : List ℕ) (k : ℕ) → slot_words * k + slot_words < length words → slot_words_at words k ≡ take slot_words (drop (slot_words * k) (drop 1 words))
slot_from words k inside = words_from words (slot_place k) slot_words (omega (arith, inside)) ∙ ap (take slot_words) (sym (drop_drop (slot_words * k) 1 (slot_place k) words (omega arith)))

-- the slot with a number
at_slot : (n : ℕ) (rest : List ℕ) (k : ℕ) → k < n → slice_get (slots_in n rest) k ≡ Some (slot_in (take slot_words (drop (slot_words * k) rest)))
at_slot zero rest k inside = absurd (omega arith)
at_slot (suc n) rest zero inside = refl
at_slot (suc n) rest (suc k) inside = at_slot n (drop slot_words rest) k (omega arith) ∙ ap (λ (l : List ℕ). Some (slot_in (take slot_words l))) (drop_drop (slot_words * k) slot_words (slot_words * suc k) rest (omega arith))

pub at_image : (words : List ℕ) (k : ℕ) → slot_words * k + slot_words < length words → slice_get (image_in words).slots k ≡ Some (slot_spelt_at words k)
at_image words k inside = at_slot ((length words - 1) / slot_words) (drop 1 words) k (omega (arith, inside)) ∙ ap (λ (l : List ℕ). Some (slot_in l)) (sym (slot_from words k inside))

-- no slot beyond
in_slots : (n : ℕ) (rest : List ℕ) (k : ℕ) (x : Slot) → slice_get (slots_in n rest) k ≡ Some x → k < n
in_slots zero rest k x is = absurd cc
in_slots (suc n) rest zero x is = omega arith
in_slots (suc n) rest (suc k) x is = let h = in_slots n (drop slot_words rest) k x is in omega (arith, h)

of_image : (words : List ℕ) (k : ℕ) (x : Slot) → slice_get (image_in words).slots k ≡ Some x → slot_spelt_at words k ≡ x
of_image words k x is =
    let h = in_slots ((length words - 1) / slot_words) (drop 1 words) k x is in
    let both : Some (slot_spelt_at words k) ≡ Some x = sym (at_image words k (omega (arith, h))) ∙ is in cc both

-- the words of a slot of a spelt image spell it
pub spelt_at : (words : List ℕ) (k : ℕ) → words ≡ words_of_image (image_in words) → slot_words * k + slot_words < length words → IsSpeltAt words k
spelt_at words k coded inside =
    let xs : List Slot = (image_in words).slots in
    let x : Slot = get_or xs k None in
    let many : length words ≡ suc (slot_words * length xs) = ap length coded ∙ ap suc (long_slots xs) in
    let here : slot_words_at words k ≡ words_of_slot x =
    slot_from words k inside ∙ (ap (λ (l : List ℕ). take slot_words (drop (slot_words * k) (drop 1 l))) coded ∙ slot_taken xs k (omega (arith, inside, many))) in
    let is : slot_spelt_at words k ≡ x = sym (got xs k (slot_spelt_at words k) (at_image words k inside)) in
    ap words_of_slot is ∙ sym here

pub spelt_in : (words : List ℕ) (b : ℕ) → words ≡ words_of_image (image_in words) → bucket_words * b + bucket_words < length words → IsSpeltIn words b
spelt_in words b coded inside = (spelt_at words (bucket_slots * b) coded (omega arith), spelt_at words (bucket_slots * b + 1) coded (omega arith), spelt_at words (bucket_slots * b + 2) coded (omega arith), spelt_at words (bucket_slots * b + 3) coded (omega arith))

-- a key seen, and one not seen
pub record Seen (id : ℕ) (key : List ℕ) (now : ℕ) (xs : List Slot) (b : Bool) : Type 0 where
  pub place : ℕ
  pub row : Shown
  pub at : slice_get xs place ≡ Some (Some row)
  pub number : row.0.0 ≡ id
  pub text : row.0.1 ≡ key
  pub lives : live now row.1 ≡ b

one_seen : (id : ℕ) (key : List ℕ) (now : ℕ) (h : Shown) (p q b : Bool) → h.0.0 == id ≡ p → bytes_eq h.0.1 key ≡ q → (if p && q then Some (live now h.1) else None) ≡ Some b → (h.0.0 ≡ id) × (h.0.1 ≡ key) × (live now h.1 ≡ b)
one_seen id key now h true true b e f is = (eqb-true h.0.0 id e, (bytes_eq-Decides h.0.1 key).0 f, cc is)
one_seen id key now h true false b e f is = absurd cc
one_seen id key now h false q b e f is = absurd cc

one_unseen : (id : ℕ) (key : List ℕ) (now : ℕ) (h : Shown) → seen_in_slot id key now (Some h) ≡ None → h.0.0 ≡ id → h.0.1 ≡ key → ⊥
one_unseen id key now h is e f = let no : Some (live now h.1) ≡ None = (λ i. if sym (eq-eqb h.0.0 id e) i && sym ((bytes_eq-Decides h.0.1 key).1 f) i then Some (live now h.1) else None) ∙ is in absurd cc

or_seen : (id : ℕ) (key : List ℕ) (now : ℕ) (h : Shown) (xs : List Slot) (b : Bool) (r : Option Bool) → seen_in_slot id key now (Some h) ≡ r → first_answer r (first_seen id key now xs) ≡ Some b → (first_seen id key now xs ≡ Some b → Seen id key now xs b) → Seen id key now (Some h ∷ xs) b
or_seen id key now h xs b (Some x) e f more = let k = one_seen id key now h (h.0.0 == id) (bytes_eq h.0.1 key) b refl refl (e ∙ f) in record { place = 0; row = h; at = refl; number = k.0; text = k.1; lives = k.2 }
or_seen id key now h xs b None e f more = let s = more f in record { place = suc s.place; row = s.row; at = s.at; number = s.number; text = s.text; lives = s.lives }

pub seen_some : (id : ℕ) (key : List ℕ) (now : ℕ) (xs : List Slot) (b : Bool) → first_seen id key now xs ≡ Some b → Seen id key now xs b
seen_some id key now [] b is = absurd cc
seen_some id key now (None ∷ xs) b is = let s = seen_some id key now xs b is in record { place = suc s.place; row = s.row; at = s.at; number = s.number; text = s.text; lives = s.lives }
seen_some id key now (Some h ∷ xs) b is = or_seen id key now h xs b (seen_in_slot id key now (Some h)) refl is (seen_some id key now xs b)

head_none : (x y : Option Bool) → first_answer x y ≡ None → (x ≡ None) × (y ≡ None)
head_none (Some b) y e = absurd cc
head_none None y e = (refl, e)

pub seen_none : (id : ℕ) (key : List ℕ) (now : ℕ) (xs : List Slot) → first_seen id key now xs ≡ None → (k : ℕ) (h : Shown) → slice_get xs k ≡ Some (Some h) → h.0.0 ≡ id → h.0.1 ≡ key → ⊥
seen_none id key now [] is k h at e f = absurd cc
seen_none id key now (x ∷ xs) is zero h at e f = let here : x ≡ Some h = cc at in one_unseen id key now h (ap (seen_in_slot id key now) (sym here) ∙ (head_none (seen_in_slot id key now x) (first_seen id key now xs) is).0) e f
seen_none id key now (x ∷ xs) is (suc k) h at e f = seen_none id key now xs (head_none (seen_in_slot id key now x) (first_seen id key now xs) is).1 k h at e f

-- the slots of a bucket
in_bucket : (words : List ℕ) (b i : ℕ) (h : Shown) → slice_get (slots_in_bucket words b) i ≡ Some (Some h) → (i < bucket_slots) × (slot_spelt_at words (bucket_slots * b + i) ≡ Some h)
in_bucket words b zero h at = let e : bucket_slots * b ≡ bucket_slots * b + 0 = omega arith in (omega arith, ap (slot_spelt_at words) (sym e) ∙ cc at)
in_bucket words b (suc zero) h at = (omega arith, cc at)
in_bucket words b (suc (suc zero)) h at = (omega arith, cc at)
in_bucket words b (suc (suc (suc zero))) h at = (omega arith, cc at)
in_bucket words b (suc (suc (suc (suc i)))) h at = absurd cc

of_bucket : (words : List ℕ) (b k i : ℕ) (h : Shown) → i < bucket_slots → k ≡ bucket_slots * b + i → slot_spelt_at words k ≡ Some h → slice_get (slots_in_bucket words b) i ≡ Some (Some h)
of_bucket words b k zero h few is at = let e : k ≡ bucket_slots * b = omega (arith, is) in ap Some (ap (slot_spelt_at words) (sym e) ∙ at)
of_bucket words b k (suc zero) h few is at = let e : k ≡ bucket_slots * b + 1 = omega (arith, is) in ap Some (ap (slot_spelt_at words) (sym e) ∙ at)
of_bucket words b k (suc (suc zero)) h few is at = let e : k ≡ bucket_slots * b + 2 = omega (arith, is) in ap Some (ap (slot_spelt_at words) (sym e) ∙ at)
of_bucket words b k (suc (suc (suc zero))) h few is at = let e : k ≡ bucket_slots * b + 3 = omega (arith, is) in ap Some (ap (slot_spelt_at words) (sym e) ∙ at)
of_bucket words b k (suc (suc (suc (suc i)))) h few is at = absurd (omega arith)

module _ (placing : ℕ → List ℕ → Place) (buckets : ℕ) (words : List ℕ) (lawful : IsLawful placing buckets words) (id : ℕ) (key : List ℕ) (now one two : ℕ) (is_place : buckets_of placing buckets (id, key) ≡ (one, two)) (first : one < buckets) (second : two < buckets) where
  long : length words ≡ bucket_words * buckets + 1
  long = lawful.spelt.wide

  abbrev slots : List Slot
  slots = (image_in words).slots

  abbrev these : Option Bool
  these = first_answer (first_seen id key now (slots_in_bucket words one)) (first_seen id key now (slots_in_bucket words two))

  -- a row of one of the buckets is a row of the image
  there : (b : ℕ) → b < buckets → (live_now : Bool) → Seen id key now (slots_in_bucket words b) live_now → Seen id key now slots live_now
  there b few l s = let k = in_bucket words b s.place s.row s.at in record {
    place = bucket_slots * b + s.place;
    row = s.row;
    at = at_image words (bucket_slots * b + s.place) (omega (arith, long)) ∙ ap Some k.1;
    number = s.number;
    text = s.text;
    lives = s.lives;
  }

  both_some : (x y : Bool) → Seen id key now slots x → Seen id key now slots y → x ≡ y
  both_some x y s t =
      let same : s.place ≡ t.place = lawful.image.once s.place t.place s.row t.row (got slots s.place (Some s.row) s.at) (got slots t.place (Some t.row) t.at) (λ i. ((s.number ∙ sym t.number) i, (s.text ∙ sym t.text) i)) in
      let at : Some (Some s.row) ≡ Some (Some t.row) = sym s.at ∙ (ap (slice_get slots) same ∙ t.at) in
      let row : s.row ≡ t.row = cc at in
      sym s.lives ∙ (ap (λ (h : Shown). live now h.1) row ∙ t.lives)

  lies : (x : Bool) (s : Seen id key now slots x) (b : ℕ) → s.place / bucket_slots ≡ b → first_seen id key now (slots_in_bucket words b) ≡ None → ⊥
  lies x s b here none = seen_none id key now (slots_in_bucket words b) none (s.place % bucket_slots) s.row (of_bucket words b s.place (s.place % bucket_slots) s.row (omega arith) (omega (arith, here)) (of_image words s.place (Some s.row) s.at)) s.number s.text

  where_placed : (x : Bool) (s : Seen id key now slots x) → (s.place / bucket_slots ≡ one) ⊎ (s.place / bucket_slots ≡ two)
  where_placed x s =
      let n : (image_in words).buckets ≡ buckets = omega (arith, long) in
      let e : buckets_of placing (image_in words).buckets s.row.0 ≡ (one, two) = (λ i. buckets_of placing (n i) (s.number i, s.text i)) ∙ is_place in
      ⊎_elim (λ (p : s.place / bucket_slots ≡ first_bucket placing (image_in words).buckets s.row.0). inl (p ∙ ap (λ (q : ℕ × ℕ). q.0) e)) (λ (p : s.place / bucket_slots ≡ second_bucket placing (image_in words).buckets s.row.0). inr (p ∙ ap (λ (q : ℕ × ℕ). q.1) e))
      (lawful.image.placed s.place s.row (got slots s.place (Some s.row) s.at))

  some_of : (p q : Option Bool) (x : Bool) → first_answer p q ≡ Some x → (p ≡ Some x) ⊎ (q ≡ Some x)
  some_of (Some b) q x e = inl e
  some_of None q x e = inr e

  of_these : (x : Bool) → these ≡ Some x → Seen id key now slots x
  of_these x e = ⊎_elim (λ (p : first_seen id key now (slots_in_bucket words one) ≡ Some x). there one first x (seen_some id key now (slots_in_bucket words one) x p))
      (λ (p : first_seen id key now (slots_in_bucket words two) ≡ Some x). there two second x (seen_some id key now (slots_in_bucket words two) x p)) (some_of (first_seen id key now (slots_in_bucket words one)) (first_seen id key now (slots_in_bucket words two)) x e)

  same_seen : (x y : Option Bool) → these ≡ x → first_seen id key now slots ≡ y → x ≡ y
  same_seen None None p q = refl
  same_seen (Some b) None p q = let s = of_these b p in absurd (seen_none id key now slots q s.place s.row s.at s.number s.text)
  same_seen None (Some b) p q =
      let s = seen_some id key now slots b q in
      let none = head_none (first_seen id key now (slots_in_bucket words one)) (first_seen id key now (slots_in_bucket words two)) p in
      absurd (⊎_elim (λ (e : s.place / bucket_slots ≡ one). lies b s one e none.0) (λ (e : s.place / bucket_slots ≡ two). lies b s two e none.1) (where_placed b s))
  same_seen (Some b) (Some d) p q = ap Some (both_some b d (of_these b p) (seen_some id key now slots d q))

  -- the key's two buckets and the count decide
  pub decides : found_in_image (image_in words) id key now ≡ answer_with_stash these (get_or words 0 0)
  decides = ap (λ (x : Option Bool). answer_with_stash x (get_or words 0 0)) (sym (same_seen these (first_seen id key now slots) refl refl))
