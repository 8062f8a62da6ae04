-- The codecs of a row and of rows, of which no two have the same key.
use Rattle.std.proofs.Common.{◌≡◌, ◌≢◌, ℕ, zero, suc, ◌≤◌, Bool, true, false, ◌||◌, if◌then◌else◌, ltb, List, [], ◌∷◌, ◌++◌, length, Ok, refl, sym, ap, subst, ◌∙◌, append_assoc, append-nil, arith}
use Rattle.std.specs.Int.{w16, to_le_bytes}
use Rattle.std.specs.List.{flat_map, AllByRecursion}
use Rattle.std.specs.Str.{is_utf8, bytes_eq}
use Rattle.std.proofs.lemmas.Bool.{ltb-false}
use Rattle.std.proofs.lemmas.List.Concat.{flat_map-cons}
use Rattle.std.proofs.lemmas.Slice.Eq.{bytes_eq-Decides}
use Rattle.std.proofs.lemmas.Str.{IsUtf8-from_is_utf8}
use Rattle.jc_model.specs.declared.config.Expiry.{Expiry}
use Rattle.jc_model.specs.declared.config.Expiry.TheVariants.{Never, At}
use Rattle.jc_model.specs.Limits.{key_bytes, value_bytes}
use Rattle.jc_model.specs.Sound.{LacksKey, HasDistinctKeys}
use Rattle.jc_model.specs.State.{Item}
use Rattle.jc_model.proofs.Sound.{distinct-push}
use Rattle.jc_save.specs.declared.fault.Flaw.TheVariants as flaw
use Rattle.jc_save.specs.Spelling.{mark, key, value, row}
use Rattle.jc_save.specs.Savable.{AreBytes, HasMoment, IsKeyText, IsRow}
use Rattle.jc_save.specs.Reading.{◌>>=◌, refused, flaw_at, byte_at, number_at, text_at, mark_at, key_at, value_at, item_with, row_at, has_key, rows_at}
use Rattle.jc_save.proofs.Codecs.{bytes_behind, bind_ok, not_refused, passed, ok_is, neither, Takes, takes_both, Codec, codec_both, codec_mapped, codec16, byte_takes, byte_again, text_takes, text_again}
use Rattle.jc_save.proofs.HeadCodecs.{tagged_takes, tagged_again}
use Rattle.jc_save.proofs.Keys.{key_good, is_false}

-- Marks.

abbrev spelled_mark : Expiry × Bool → List ℕ
spelled_mark m = mark m.0 m.1

abbrev IsMark : Expiry × Bool → Type 0
IsMark m = HasMoment m.0

mark_takes : (bytes : List ℕ) (x : (Expiry × Bool) × List ℕ) → AreBytes bytes → mark_at bytes ≡ Ok x → Takes bytes (spelled_mark x.0) x.1 × IsMark x.0
unfolding mark_at mark
mark_takes [] x fits e = absurd cc
mark_takes (zero ∷ rest) x fits e =
    subst (λ (y : (Expiry × Bool) × List ℕ). Takes (0 ∷ rest) (spelled_mark y.0) y.1 × IsMark y.0) (ok_is ((Never, false), rest) x e) (record { parts = refl; rest_fits = bytes_behind 0 rest fits }, tt)
mark_takes (suc zero ∷ rest) x fits e =
    subst (λ (y : (Expiry × Bool) × List ℕ). Takes (1 ∷ rest) (spelled_mark y.0) y.1 × IsMark y.0) (ok_is ((Never, true), rest) x e) (record { parts = refl; rest_fits = bytes_behind 1 rest fits }, tt)
mark_takes (suc (suc zero) ∷ rest) x fits e = tagged_takes (λ m. (At m, false)) 2 spelled_mark IsMark (λ m. refl) (λ m lt. lt) rest x (bytes_behind 2 rest fits) e
mark_takes (suc (suc (suc zero)) ∷ rest) x fits e = tagged_takes (λ m. (At m, true)) 3 spelled_mark IsMark (λ m. refl) (λ m lt. lt) rest x (bytes_behind 3 rest fits) e
mark_takes (suc (suc (suc (suc b))) ∷ rest) x fits e = absurd cc

mark_again : (m : Expiry × Bool) (rest : List ℕ) → IsMark m → mark_at (spelled_mark m ++ rest) ≡ Ok (m, rest)
unfolding mark_at mark
mark_again (Never, false) rest good = refl
mark_again (Never, true) rest good = refl
mark_again (At m, false) rest good = tagged_again (λ m. (At m, false)) m rest good
mark_again (At m, true) rest good = tagged_again (λ m. (At m, true)) m rest good

codec_mark : Codec mark_at spelled_mark IsMark
codec_mark = record { takes = mark_takes; again = mark_again }

-- Keys and values.

key_takes : (bytes : List ℕ) (x : List ℕ × List ℕ) → AreBytes bytes → key_at bytes ≡ Ok x → Takes bytes (key x.0) x.1 × IsKeyText x.0
unfolding key_at
key_takes bytes x fits e =
    let a = bind_ok (byte_at bytes) (λ n. (if ltb n.0 1 || ltb key_bytes n.0 then refused flaw.KeyLength bytes else text_at n.0 n.1) >>= λ text. if is_utf8 text.0 then Ok text else refused flaw.KeyText n.1) x e in
    let b = bind_ok (if ltb a.0.0 1 || ltb key_bytes a.0.0 then refused flaw.KeyLength bytes else text_at a.0.0 a.0.1) (λ text. if is_utf8 text.0 then Ok text else refused flaw.KeyText a.0.1) x a.2 in
    let g = not_refused (ltb a.0.0 1 || ltb key_bytes a.0.0) (flaw_at flaw.KeyLength bytes) (text_at a.0.0 a.0.1) b.0 b.1 in
    let n = neither (ltb a.0.0 1) (ltb key_bytes a.0.0) g.0 in
    let p = passed (is_utf8 b.0.0) (flaw_at flaw.KeyText a.0.1) (Ok b.0) x b.2 in
    let one = byte_takes bytes a.0 fits a.1 in
    let text = text_takes a.0.0 a.0.1 b.0 one.rest_fits g.1 in
    let whole : Takes bytes (a.0.0 ∷ b.0.0) b.0.1 = takes_both bytes (a.0.0 ∷ []) a.0.1 b.0.0 b.0.1 one text.0 in
    let low : 1 ≤ a.0.0 = ltb-false _ _ n.0 in
    let high : a.0.0 ≤ key_bytes = ltb-false _ _ n.1 in
    subst (λ (y : List ℕ × List ℕ). Takes bytes (key y.0) y.1 × IsKeyText y.0) (ok_is b.0 x p.1)
    (subst (λ (k : ℕ). Takes bytes (k ∷ b.0.0) b.0.1) (sym text.1) whole, (rw text.1 low, rw text.1 high, IsUtf8-from_is_utf8 b.0.0 p.0))

key_again : (text rest : List ℕ) → IsKeyText text → key_at (key text ++ rest) ≡ Ok (text, rest)
key_again text rest good =
    key_good (key text ++ rest) (text ++ rest) text rest (length text) (byte_again (length text) (text ++ rest)) good.0 good.1 (text_again text rest) good.2

codec_key : Codec key_at key IsKeyText
codec_key = record { takes = key_takes; again = key_again }

abbrev IsValue : List ℕ → Type 0
IsValue bytes = length bytes ≤ value_bytes

value_takes : (bytes : List ℕ) (x : List ℕ × List ℕ) → AreBytes bytes → value_at bytes ≡ Ok x → Takes bytes (value x.0) x.1 × IsValue x.0
unfolding value_at
value_takes bytes x fits e =
    let a = bind_ok (number_at w16 bytes) (λ n. text_at n.0 n.1) x e in
    let one = codec16.takes bytes a.0 fits a.1 in
    let text = text_takes a.0.0 a.0.1 x one.0.rest_fits a.2 in
    let whole : Takes bytes (to_le_bytes w16 a.0.0 ++ x.0) x.1 = takes_both bytes (to_le_bytes w16 a.0.0) a.0.1 x.0 x.1 one.0 text.0 in
    (subst (λ (n : ℕ). Takes bytes (to_le_bytes w16 n ++ x.0) x.1) (sym text.1) whole, omega (arith, one.1, text.1))

value_again : (bytes rest : List ℕ) → IsValue bytes → value_at (value bytes ++ rest) ≡ Ok (bytes, rest)
unfolding value_at
value_again bytes rest few =
    ap value_at (append_assoc (to_le_bytes w16 (length bytes)) bytes rest) ∙ rw (codec16.again (length bytes) (bytes ++ rest) (omega (arith, few))) (text_again bytes rest)

codec_value : Codec value_at value IsValue
codec_value = record { takes = value_takes; again = value_again }

-- A row.

abbrev Parts : Type 0
Parts = (Expiry × Bool) × (List ℕ × List ℕ)

abbrev parts : Item → Parts
parts x = ((x.expiry, x.used), (x.key, x.value))

abbrev AreGood : Parts → Type 0
AreGood p = IsMark p.0 × (IsKeyText p.1.0 × IsValue p.1.1)

row_good : (p : Parts) → AreGood p → IsRow (item_with p)
row_good p good = record { key = good.1.0; value = good.1.1; moment = good.0 }

row_back : (x : Item) → IsRow x → (item_with (parts x) ≡ x) × AreGood (parts x)
row_back x is = (refl, (is.moment, (is.key, is.value)))

row_spelled : (p : Parts) → row (item_with p) ≡ spelled_mark p.0 ++ (key p.1.0 ++ value p.1.1)
unfolding row
row_spelled p = refl

pub codec_row : Codec row_at row IsRow
unfolding row_at
codec_row = codec_mapped (codec_both codec_mark (codec_both codec_key codec_value)) item_with parts row IsRow row_spelled row_good row_back

-- Keys that differ.

lacks : (k : List ℕ) (rows : List Item) → has_key k rows ≡ false → LacksKey k rows
lacks k [] e = tt
lacks k (x ∷ rows) e =
    let n = neither (bytes_eq x.key k) (has_key k rows) e in
    ((λ same. absurd (let yes = (bytes_eq-Decides x.key k).1 same in let no = n.0 in cc)), lacks k rows n.1)

has_none : (k : List ℕ) (rows : List Item) → LacksKey k rows → has_key k rows ≡ false
has_none k [] h = refl
has_none k (x ∷ rows) h =
    rw (is_false (bytes_eq x.key k) (λ yes. h.0 ((bytes_eq-Decides x.key k).0 yes)), has_none k rows h.1) refl

lacks_there : (k : List ℕ) (xs : List Item) (x : Item) (ys : List Item) → LacksKey k (xs ++ x ∷ ys) → x.key ≢ k
lacks_there k [] x ys h = h.0
lacks_there k (y ∷ xs) x ys h = lacks_there k xs x ys h.1

front_lacks : (xs : List Item) (x : Item) (ys : List Item) → HasDistinctKeys (xs ++ x ∷ ys) → LacksKey x.key xs
front_lacks [] x ys h = tt
front_lacks (y ∷ xs) x ys h = ((λ e. lacks_there y.key xs x ys h.0 (sym e)), front_lacks xs x ys h.1)

-- Rows that stand one after the other.

pub record AddsRows (before : List Item) (n : ℕ) (bytes : List ℕ) (x : List Item × List ℕ) : Type 0 where
  pub new : List Item
  pub is : x.0 ≡ before ++ new
  pub takes : Takes bytes (flat_map row new) x.1
  pub counted : length new ≡ n
  pub rows : AllByRecursion IsRow new
  pub distinct : HasDistinctKeys x.0

pub rows_take : (before : List Item) (n : ℕ) (bytes : List ℕ) (x : List Item × List ℕ) → AreBytes bytes → HasDistinctKeys before → rows_at before n bytes ≡ Ok x → AddsRows before n bytes x
unfolding rows_at
rows_take before zero bytes x fits distinct e =
    subst (λ (y : List Item × List ℕ). AddsRows before 0 bytes y) (ok_is (before, bytes) x e)
    (record { new = []; is = sym (append-nil before); takes = record { parts = refl; rest_fits = fits }; counted = refl; rows = tt; distinct = distinct })
rows_take before (suc n) bytes x fits distinct e =
    let a = bind_ok (row_at bytes) (λ y. if has_key y.0.key before then refused flaw.DuplicateKey bytes else rows_at (before ++ y.0 ∷ []) n y.1) x e in
    let g = not_refused (has_key a.0.0.key before) (flaw_at flaw.DuplicateKey bytes) (rows_at (before ++ a.0.0 ∷ []) n a.0.1) x a.2 in
    let one = codec_row.takes bytes a.0 fits a.1 in
    let others = rows_take (before ++ a.0.0 ∷ []) n a.0.1 x one.0.rest_fits (distinct-push a.0.0 before distinct (lacks a.0.0.key before g.0)) g.1 in
    record {
      new = a.0.0 ∷ others.new;
      is = others.is ∙ append_assoc before (a.0.0 ∷ []) others.new;
      takes =
          subst (λ (text : List ℕ). Takes bytes text x.1) (sym (flat_map-cons row a.0.0 others.new)) (takes_both bytes (row a.0.0) a.0.1 (flat_map row others.new) x.1 one.0 others.takes);
      counted = ap suc others.counted;
      rows = (one.1, others.rows);
      distinct = others.distinct;
    }

pub rows_again : (before new : List Item) (rest : List ℕ) → AllByRecursion IsRow new → HasDistinctKeys (before ++ new) → rows_at before (length new) (flat_map row new ++ rest) ≡ Ok (before ++ new, rest)
unfolding rows_at
rows_again before [] rest good distinct = ap (λ (rows : List Item). Ok (rows, rest)) (sym (append-nil before))
rows_again before (x ∷ new) rest good distinct =
    let regrouped : flat_map row (x ∷ new) ++ rest ≡ row x ++ (flat_map row new ++ rest) = ap (λ (text : List ℕ). text ++ rest) (flat_map-cons row x new) ∙ append_assoc (row x) (flat_map row new) rest in
    let absent : has_key x.key before ≡ false = has_none x.key before (front_lacks before x new distinct) in
    let others = rows_again (before ++ x ∷ []) new rest good.1 (subst HasDistinctKeys (sym (append_assoc before (x ∷ []) new)) distinct) in
    ap (rows_at before (suc (length new))) regrouped ∙ rw (codec_row.again x (flat_map row new ++ rest) good.0, absent)
    (others ∙ ap (λ (rows : List Item). Ok (rows, rest)) (append_assoc before (x ∷ []) new))
