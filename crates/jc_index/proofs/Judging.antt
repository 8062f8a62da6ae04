-- Whether a slot's words hold a key.
use Rattle.std.proofs.Common.{◌≡◌, ◌≢◌, ℕ, zero, suc, ◌+◌, ◌-◌, ◌%◌, ◌^◌, ◌<◌, ◌≤◌, ◌*◌, Bool, true, false, ◌&&◌, ◌==◌, List, get_or, take, nat_lt, if◌then◌else◌, Option, Some, None, inl, inr, refl, sym, ap, ◌∙◌, subst, arith, eq-eqb, ne_eqb}
use Rattle.std.specs.Str.{bytes_eq}
use Rattle.std.proofs.lemmas.Slice.Eq.{bytes_eq-Decides}
use Rattle.jc_model.specs.Key.{words_of}
use Rattle.jc_model.specs.State.{live}
use Rattle.jc_model.specs.declared.config.Expiry.{Expiry}
use Rattle.jc_model.specs.declared.config.Expiry.TheVariants.{Never, At}
use Rattle.jc_rows.specs.Images.{Shown}
use Rattle.jc_index.specs.Layout.{moment_place, slot_place, slot_words}
use Rattle.jc_index.specs.Spelling.{IsCoded, bytes_in, key_of_words, slot_of, words_of_slot, never_bit, moment_of, key_in, key_words_at, slot_spelt_at, slot_in}
use Rattle.jc_index.specs.Found.{seen_in_slot}
use Rattle.jc_index.specs.Passes.{IsHeadAt, IsSpeltAt}
use Rattle.jc_index.specs.declared.sought.Sought.{Sought}
use Rattle.jc_index.proofs.Coding.{alike_back}
use Rattle.jc_index.proofs.Noting.{nth_word}

abbrev data_of : {A : Type 0} → A → Option A → A
data_of d None = d
data_of d (Some x) = x

no_bytes : (a b : List ℕ) → a ≢ b → bytes_eq a b ≡ false
no_bytes a b ne = go (bytes_eq a b) refl
  where
    go : (r : Bool) → bytes_eq a b ≡ r → bytes_eq a b ≡ false
    go true e = absurd (ne ((bytes_eq-Decides a b).0 e))
    go false e = e

coded_key : (h : Shown) → IsCoded (Some h) → key_of_words (words_of h.0.1) ≡ h.0.1
coded_key h k = by (never_bit h.1 + (h.0.0 + 1)) k (omega arith)
  where
    by : (first : ℕ) → slot_of first (words_of h.0.1) (moment_of h.1) ≡ Some h → 0 < first → key_of_words (words_of h.0.1) ≡ h.0.1
    by zero e some = absurd (omega arith)
    by (suc n) e some = cc (ap (λ (x : Option Shown). (data_of h x).0.1) e)

coded_number : (h : Shown) → IsCoded (Some h) → h.0.0 + 1 < 2 ^ 33
coded_number h k = by (never_bit h.1 + (h.0.0 + 1)) k (omega arith)
  where
    by : (first : ℕ) → slot_of first (words_of h.0.1) (moment_of h.1) ≡ Some h → 0 < first → h.0.0 + 1 < 2 ^ 33
    by zero e some = absurd (omega arith)
    by (suc n) e some = let f : suc n % 2 ^ 33 - 1 ≡ h.0.0 = ap (λ (x : Option Shown). (data_of h x).0.0) e in omega arith

never_low : (e : Expiry) (n : ℕ) → n < 2 ^ 33 → (never_bit e + n) % 2 ^ 33 ≡ n
never_low Never n few = omega arith
never_low (At m) n few = omega arith

first_low : (h : Shown) → IsCoded (Some h) → (never_bit h.1 + (h.0.0 + 1)) % 2 ^ 33 ≡ h.0.0 + 1
first_low h k = never_low h.1 (h.0.0 + 1) (coded_number h k)

-- another cache's, or none
pub other_cache : (slot : Option Shown) (id : ℕ) (text : List ℕ) (now : ℕ) → IsCoded slot → get_or (words_of_slot slot) 0 0 % 2 ^ 33 ≢ id + 1 → None ≡ seen_in_slot id text now slot
other_cache None id text now k ne = refl
other_cache (Some h) id text now k ne =
    let no : (h.0.0 == id) ≡ false = ne_eqb h.0.0 id (λ (e : h.0.0 ≡ id). ne (first_low h k ∙ ap (λ (n : ℕ). n + 1) e)) in
    ap (λ (b : Bool). if b && bytes_eq h.0.1 text then Some (live now h.1) else None) (sym no)

and_false : (b : Bool) → (b && false) ≡ false
and_false true = refl
and_false false = refl

-- another key's, or none
pub other_key : (slot : Option Shown) (id : ℕ) (text : List ℕ) (now : ℕ) → key_in (words_of_slot slot) ≢ words_of text → None ≡ seen_in_slot id text now slot
other_key None id text now ne = refl
other_key (Some h) id text now ne =
    let no : bytes_eq h.0.1 text ≡ false = no_bytes h.0.1 text (λ (e : h.0.1 ≡ text). ne (ap words_of e)) in
    ap (λ (b : Bool). if b then Some (live now h.1) else None) (sym (ap (λ (b : Bool). (h.0.0 == id) && b) no ∙ and_false (h.0.0 == id)))

-- this key's
pub same_one : (slot : Option Shown) (id : ℕ) (text : List ℕ) (now : ℕ) (b : Bool) → IsCoded slot → get_or (words_of_slot slot) 0 0 % 2 ^ 33 ≡ id + 1 → key_in (words_of_slot slot) ≡ words_of text → key_of_words (words_of text) ≡ text
    → ((h : Shown) → slot ≡ Some h → b ≡ live now h.1) → Some b ≡ seen_in_slot id text now slot
same_one None id text now b k number key back is = absurd (omega (arith, number))
same_one (Some h) id text now b k number key back is =
    let same_number : h.0.0 ≡ id = omega (arith, first_low h k, number) in
    let same_text : h.0.1 ≡ text = sym (coded_key h k) ∙ (ap key_of_words key ∙ back) in
    let yes : bytes_eq h.0.1 text ≡ true = (bytes_eq-Decides h.0.1 text).1 same_text in
    ap Some (is h refl) ∙ (λ i. if sym (eq-eqb h.0.0 id same_number) i && sym yes i then Some (live now h.1) else None)

pub never_live : (slot : Option Shown) (h : Shown) (now : ℕ) → IsCoded slot → 2 ^ 33 ≤ get_or (words_of_slot slot) 0 0 → slot ≡ Some h → true ≡ live now h.1
never_live slot h now k high is = by h.1 (subst (λ (x : Option Shown). 2 ^ 33 ≤ get_or (words_of_slot x) 0 0) is high) (coded_number h (subst IsCoded is k))
  where
    by : (e : Expiry) → 2 ^ 33 ≤ never_bit e + (h.0.0 + 1) → h.0.0 + 1 < 2 ^ 33 → true ≡ live now e
    by Never high few = refl
    by (At m) high few = absurd (omega arith)

pub moment_live : (slot : Option Shown) (h : Shown) (now : ℕ) → get_or (words_of_slot slot) 0 0 < 2 ^ 33 → slot ≡ Some h → nat_lt now (get_or (words_of_slot slot) moment_place 0) ≡ live now h.1
moment_live slot h now low is = ap (λ (x : Option Shown). nat_lt now (get_or (words_of_slot x) moment_place 0)) is ∙ by h.1 (subst (λ (x : Option Shown). get_or (words_of_slot x) 0 0 < 2 ^ 33) is low)
  where
    by : (e : Expiry) → never_bit e + (h.0.0 + 1) < 2 ^ 33 → nat_lt now (moment_of e) ≡ live now e
    by Never low = absurd (omega arith)
    by (At m) low = refl

-- a row whose first words are those of a key has all of its words, where these have all of the key
pub whole_key : (slot : Option Shown) (id count : ℕ) (key : List ℕ) → IsCoded slot → get_or (words_of_slot slot) 0 0 % 2 ^ 33 ≡ id + 1 → key ≡ words_of (key_of_words key) → get_or (bytes_in key) 0 0 < 8 * count
    → take count (key_in (words_of_slot slot)) ≡ take count key → key_in (words_of_slot slot) ≡ key
whole_key None id count key k number spelt long first = absurd (omega (arith, number))
whole_key (Some h) id count key k number spelt long first =
    let text : h.0.1 ≡ key_of_words key = sym (coded_key h k) ∙ alike_back (words_of h.0.1) key count first long in
    ap words_of text ∙ sym spelt

-- what a slot's words tell of the key that is sought, as far as they are read
module _ (me : Sought) (words : List ℕ) (slot : ℕ) (at : IsSpeltAt words slot) where
  coded : IsCoded (slot_spelt_at words slot)
  coded = ap slot_in at

  head_is : get_or (words_of_slot (slot_spelt_at words slot)) 0 0 ≡ get_or words (slot_place slot) 0
  head_is = ap (λ (l : List ℕ). get_or l 0 0) at

  key_is : key_in (words_of_slot (slot_spelt_at words slot)) ≡ key_words_at words slot
  key_is = ap key_in at

  moment_is : get_or (words_of_slot (slot_spelt_at words slot)) moment_place 0 ≡ get_or words (slot_place slot + moment_place) 0
  moment_is = ap (λ (l : List ℕ). get_or l moment_place 0) at ∙ nth_word words (slot_place slot) slot_words moment_place (omega arith)

  pub whole : (head : ℕ) → head ≡ get_or words (slot_place slot) 0 → head % 2 ^ 33 ≡ me.id + 1 → take me.count me.words ≡ take me.count (key_words_at words slot) → key_words_at words slot ≡ me.words
  whole head is number first =
      sym key_is ∙ whole_key (slot_spelt_at words slot) me.id me.count me.words coded (ap (λ (n : ℕ). n % 2 ^ 33) (head_is ∙ sym is) ∙ number) me.spelt me.long (ap (take me.count) key_is ∙ sym first)

  pub absent : IsHeadAt me.id me.words words slot None → None ≡ seen_in_slot me.id (key_of_words me.words) me.moment (slot_spelt_at words slot)
  absent (inl other) = other_cache (slot_spelt_at words slot) me.id (key_of_words me.words) me.moment coded (λ e. other (ap (λ (n : ℕ). n % 2 ^ 33) (sym head_is) ∙ e))
  absent (inr other) = other_key (slot_spelt_at words slot) me.id (key_of_words me.words) me.moment (λ e. other (sym key_is ∙ (e ∙ sym me.spelt)))

  present : (head : ℕ) (b : Bool) → IsHeadAt me.id me.words words slot (Some head) → ((h : Shown) → slot_spelt_at words slot ≡ Some h → b ≡ live me.moment h.1) → Some b ≡ seen_in_slot me.id (key_of_words me.words) me.moment (slot_spelt_at words slot)
  present head b here is =
      same_one (slot_spelt_at words slot) me.id (key_of_words me.words) me.moment b coded (ap (λ (n : ℕ). n % 2 ^ 33) (head_is ∙ sym here.0) ∙ here.1) (key_is ∙ (here.2 ∙ me.spelt)) (ap key_of_words (sym me.spelt)) is

  pub forever : (head : ℕ) → 2 ^ 33 ≤ head → IsHeadAt me.id me.words words slot (Some head) → Some true ≡ seen_in_slot me.id (key_of_words me.words) me.moment (slot_spelt_at words slot)
  forever head high here = present head true here (λ h is. never_live (slot_spelt_at words slot) h me.moment coded (subst (λ (n : ℕ). 2 ^ 33 ≤ n) (here.0 ∙ sym head_is) high) is)

  pub until : (head moment : ℕ) → head < 2 ^ 33 → moment ≡ get_or words (slot_place slot + moment_place) 0 → IsHeadAt me.id me.words words slot (Some head) → Some (nat_lt me.moment moment) ≡ seen_in_slot me.id (key_of_words me.words) me.moment (slot_spelt_at words slot)
  until head moment low tells here =
      present head (nat_lt me.moment moment) here
      (λ h is. ap (nat_lt me.moment) (tells ∙ sym moment_is) ∙ moment_live (slot_spelt_at words slot) h me.moment (subst (λ (n : ℕ). n < 2 ^ 33) (here.0 ∙ sym head_is) low) is)
