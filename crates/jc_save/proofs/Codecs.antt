-- Fields that are spelled and read: what is read is the spelling, and what is spelled is read again.
use Rattle.std.proofs.Common.{◌≡◌, ℕ, zero, suc, ◌+◌, ◌^◌, ◌<◌, ◌≤◌, Bool, true, false, ◌||◌, if◌then◌else◌, ltb, List, [], ◌∷◌, ◌++◌, length, take, drop, Result, Ok, Err, refl, sym, ap, subst, ◌∙◌, append_assoc, arith, inl, inr}
use Rattle.std.specs.Int.{Width, w16, w32, w64, byte_len, from_le_bytes, to_le_bytes}
use Rattle.std.proofs.lemmas.Bool.{cases_lt, ltb-false, le-ltb}
use Rattle.std.proofs.lemmas.List.{take_at, drop_at, take-append-drop, length-append, length-take, get_or-drop, get_or-take, get_or_past}
use Rattle.std.proofs.lemmas.Nat.{le_bytes_2, le_bytes_4, le_bytes_8, from_le_bytes-to_le_bytes_2, from_le_bytes-to_le_bytes_4, from_le_bytes-to_le_bytes_8}
use Rattle.jc_save.specs.declared.fault.Found.{Found}
use Rattle.jc_save.specs.declared.fault.Flaw.TheVariants as flaw
use Rattle.jc_save.specs.Savable.{AreBytes}
use Rattle.jc_save.specs.Spelling.{flag}
use Rattle.jc_save.specs.Reading.{◌>>=◌, both, mapped, flaw_at, byte_at, number_at, text_at, flag_at}

pub bytes_dropped : (n : ℕ) (bytes : List ℕ) → AreBytes bytes → AreBytes (drop n bytes)
bytes_dropped n bytes h i = rw get_or-drop (h (n + i))

bytes_taken : (n : ℕ) (bytes : List ℕ) → AreBytes bytes → AreBytes (take n bytes)
bytes_taken n bytes h i =
    elim (cases_lt i n) [
      | inl lt ↦ rw (get_or-take n bytes i 0 lt) (h i)
      | inr le ↦ rw (get_or_past (take n bytes) i 0 (omega (arith, length-take n bytes))) (omega arith)
    ]

pub bytes_behind : (b : ℕ) (bytes : List ℕ) → AreBytes (b ∷ bytes) → AreBytes bytes
bytes_behind b bytes h i = h (suc i)

-- Steps that did not fail.

pub bind_ok : {A B : Type 0} (r : Result A Found) (f : A → Result B Found) (y : B) → (r >>= f) ≡ Ok y → (x : A) × (r ≡ Ok x) × (f x ≡ Ok y)
bind_ok (Ok x) f y e = (x, refl, e)
bind_ok (Err found) f y e = absurd cc

pub not_refused : {A : Type 0} (b : Bool) (found : Found) (r : Result A Found) (y : A) → (if b then Err found else r) ≡ Ok y → (b ≡ false) × (r ≡ Ok y)
not_refused true found r y e = absurd cc
not_refused false found r y e = (refl, e)

pub passed : {A : Type 0} (b : Bool) (found : Found) (r : Result A Found) (y : A) → (if b then r else Err found) ≡ Ok y → (b ≡ true) × (r ≡ Ok y)
passed true found r y e = (refl, e)
passed false found r y e = absurd cc

abbrev done : {A : Type 0} → A → Result A Found
done x = Ok x

pub ok_is : {A : Type 0} (x y : A) → done x ≡ done y → x ≡ y
ok_is x y e = cc

pub neither : (a b : Bool) → (a || b) ≡ false → (a ≡ false) × (b ≡ false)
neither true b e = absurd cc
neither false b e = (refl, e)

-- What a reader took from the front.
pub record Takes (bytes text rest : List ℕ) : Type 0 where
  pub parts : bytes ≡ text ++ rest
  pub rest_fits : AreBytes rest

pub takes_both : (a x b y c : List ℕ) → Takes a x b → Takes b y c → Takes a (x ++ y) c
takes_both a x b y c p q =
    record { parts = p.parts ∙ ap (λ (t : List ℕ). x ++ t) q.parts ∙ sym (append_assoc x y c); rest_fits = q.rest_fits }

pub takes_behind : (b : ℕ) (bytes text rest : List ℕ) → Takes bytes text rest → Takes (b ∷ bytes) (b ∷ text) rest
takes_behind b bytes text rest p = record { parts = ap (λ (t : List ℕ). b ∷ t) p.parts; rest_fits = p.rest_fits }

-- A field is read exactly where it is spelled, and its values are good.
pub record Codec {A : Type 0} (read : List ℕ → Result (A × List ℕ) Found) (spell : A → List ℕ) (Good : A → Type 0) : Type 0 where
  pub takes : (bytes : List ℕ) (x : A × List ℕ) → AreBytes bytes → read bytes ≡ Ok x → Takes bytes (spell x.0) x.1 × Good x.0
  pub again : (a : A) (rest : List ℕ) → Good a → read (spell a ++ rest) ≡ Ok (a, rest)

module _ {A B : Type 0} {r : List ℕ → Result (A × List ℕ) Found} {q : List ℕ → Result (B × List ℕ) Found} {s : A → List ℕ} {t : B → List ℕ} {F : A → Type 0} {G : B → Type 0} (first : Codec r s F) (second : Codec q t G) where
  takes_pair : (bytes : List ℕ) (x : (A × B) × List ℕ) → AreBytes bytes → both r q bytes ≡ Ok x → Takes bytes (s x.0.0 ++ t x.0.1) x.1 × (F x.0.0 × G x.0.1)
  takes_pair bytes x fits e =
      let a = bind_ok (r bytes) (λ y. q y.1 >>= λ z. Ok ((y.0, z.0), z.1)) x e in
      let b = bind_ok (q a.0.1) (λ z. Ok ((a.0.0, z.0), z.1)) x a.2 in
      let one = first.takes bytes a.0 fits a.1 in
      let two = second.takes a.0.1 b.0 one.0.rest_fits b.1 in
      let made : (A × B) × List ℕ = ((a.0.0, b.0.0), b.0.1) in
      subst (λ (y : (A × B) × List ℕ). Takes bytes (s y.0.0 ++ t y.0.1) y.1 × (F y.0.0 × G y.0.1)) (ok_is made x b.2)
      (takes_both bytes (s a.0.0) a.0.1 (t b.0.0) b.0.1 one.0 two.0, (one.1, two.1))

  pair_again : (p : A × B) (rest : List ℕ) → F p.0 × G p.1 → both r q ((s p.0 ++ t p.1) ++ rest) ≡ Ok (p, rest)
  pair_again p rest good =
      ap (both r q) (append_assoc (s p.0) (t p.1) rest) ∙ rw (first.again p.0 (t p.1 ++ rest) good.0, second.again p.1 rest good.1) refl

  pub codec_both : Codec (both r q) (λ p. s p.0 ++ t p.1) (λ p. F p.0 × G p.1)
  codec_both = record { takes = takes_pair; again = pair_again }

-- what is made of a field, by f, which g undoes
module _ {A B : Type 0} {r : List ℕ → Result (A × List ℕ) Found} {s : A → List ℕ} {F : A → Type 0} (field : Codec r s F) (f : A → B) (g : B → A) (t : B → List ℕ) (G : B → Type 0)
    (spelled : (a : A) → t (f a) ≡ s a) (good : (a : A) → F a → G (f a)) (back : (b : B) → G b → (f (g b) ≡ b) × F (g b)) where
  takes_mapped : (bytes : List ℕ) (x : B × List ℕ) → AreBytes bytes → mapped f r bytes ≡ Ok x → Takes bytes (t x.0) x.1 × G x.0
  takes_mapped bytes x fits e =
      let a = bind_ok (r bytes) (λ y. Ok (f y.0, y.1)) x e in
      let one = field.takes bytes a.0 fits a.1 in
      let made : B × List ℕ = (f a.0.0, a.0.1) in
      subst (λ (y : B × List ℕ). Takes bytes (t y.0) y.1 × G y.0) (ok_is made x a.2)
      (subst (λ (text : List ℕ). Takes bytes text a.0.1) (sym (spelled a.0.0)) one.0, good a.0.0 one.1)

  mapped_again : (b : B) (rest : List ℕ) → G b → mapped f r (t b ++ rest) ≡ Ok (b, rest)
  mapped_again b rest is =
      let there = back b is in
      let same : t b ++ rest ≡ s (g b) ++ rest = ap (λ (y : B). t y ++ rest) (sym there.0) ∙ ap (λ (text : List ℕ). text ++ rest) (spelled (g b)) in
      ap (mapped f r) same ∙ rw (field.again (g b) rest there.1) (ap (λ (y : B). Ok (y, rest)) there.0)

  pub codec_mapped : Codec (mapped f r) t G
  codec_mapped = record { takes = takes_mapped; again = mapped_again }

-- Numbers.

pub record IsWide (w : Width) (limit : ℕ) : Type 0 where
  pub len : (n : ℕ) → length (to_le_bytes w n) ≡ byte_len w
  pub back : (bytes : List ℕ) → length bytes ≡ byte_len w → AreBytes bytes → to_le_bytes w (from_le_bytes w bytes) ≡ bytes
  pub again : (n : ℕ) → n < limit → from_le_bytes w (to_le_bytes w n) ≡ n
  pub below : (bytes : List ℕ) → AreBytes bytes → from_le_bytes w bytes < limit

wide16 : IsWide w16 (2 ^ 16)
wide16 = record {
  len = λ n. refl;
  back = λ bytes len fits. le_bytes_2 bytes _ len fits refl;
  again = λ n lt. from_le_bytes-to_le_bytes_2 n lt;
  below = λ bytes fits. omega (arith, fits 0, fits 1);
}

wide32 : IsWide w32 (2 ^ 32)
wide32 = record {
  len = λ n. refl;
  back = λ bytes len fits. le_bytes_4 bytes _ len fits refl;
  again = λ n lt. from_le_bytes-to_le_bytes_4 n lt;
  below = λ bytes fits. omega (arith, fits 0, fits 1, fits 2, fits 3);
}

wide64 : IsWide w64 (2 ^ 64)
wide64 = record {
  len = λ n. refl;
  back = λ bytes len fits. le_bytes_8 bytes _ len fits refl;
  again = λ n lt. from_le_bytes-to_le_bytes_8 n lt;
  below = λ bytes fits. omega (arith, fits 0, fits 1, fits 2, fits 3, fits 4, fits 5, fits 6, fits 7);
}

module _ (w : Width) (limit : ℕ) (wide : IsWide w limit) where
  number_takes : (bytes : List ℕ) (x : ℕ × List ℕ) → AreBytes bytes → number_at w bytes ≡ Ok x → Takes bytes (to_le_bytes w x.0) x.1 × (x.0 < limit)
  unfolding number_at
  number_takes bytes x fits e =
      let made : ℕ × List ℕ = (from_le_bytes w (take (byte_len w) bytes), drop (byte_len w) bytes) in
      let g = not_refused (ltb (length bytes) (byte_len w)) (flaw_at flaw.Cut bytes) (Ok made) x e in
      let long : byte_len w ≤ length bytes = ltb-false _ _ g.0 in
      let front : to_le_bytes w made.0 ≡ take (byte_len w) bytes = wide.back (take (byte_len w) bytes) (omega (arith, length-take (byte_len w) bytes)) (bytes_taken (byte_len w) bytes fits) in
      subst (λ (y : ℕ × List ℕ). Takes bytes (to_le_bytes w y.0) y.1 × (y.0 < limit)) (ok_is made x g.1)
      (record { parts = rw front (sym (take-append-drop (byte_len w) bytes)); rest_fits = bytes_dropped (byte_len w) bytes fits }, wide.below (take (byte_len w) bytes) (bytes_taken (byte_len w) bytes fits))

  number_again : (n : ℕ) (rest : List ℕ) → n < limit → number_at w (to_le_bytes w n ++ rest) ≡ Ok (n, rest)
  unfolding number_at
  number_again n rest lt =
      let len = wide.len n in
      let long : ltb (length (to_le_bytes w n ++ rest)) (byte_len w) ≡ false = le-ltb _ _ (omega (arith, length-append (to_le_bytes w n) rest)) in
      rw (long, take_at (to_le_bytes w n) rest (byte_len w) len, drop_at (to_le_bytes w n) rest (byte_len w) len, wide.again n lt) refl

  pub codec_number : Codec (number_at w) (to_le_bytes w) (λ n. n < limit)
  codec_number = record { takes = number_takes; again = number_again }

pub codec16 : Codec (number_at w16) (to_le_bytes w16) (λ n. n < 2 ^ 16)
codec16 = codec_number w16 (2 ^ 16) wide16

pub codec32 : Codec (number_at w32) (to_le_bytes w32) (λ n. n < 2 ^ 32)
codec32 = codec_number w32 (2 ^ 32) wide32

pub codec64 : Codec (number_at w64) (to_le_bytes w64) (λ n. n < 2 ^ 64)
codec64 = codec_number w64 (2 ^ 64) wide64

-- Bytes.

pub byte_takes : (bytes : List ℕ) (x : ℕ × List ℕ) → AreBytes bytes → byte_at bytes ≡ Ok x → Takes bytes (x.0 ∷ []) x.1
unfolding byte_at
byte_takes [] x fits e = absurd cc
byte_takes (b ∷ rest) x fits e =
    subst (λ (y : ℕ × List ℕ). Takes (b ∷ rest) (y.0 ∷ []) y.1) (ok_is (b, rest) x e) (record { parts = refl; rest_fits = bytes_behind b rest fits })

pub byte_again : (b : ℕ) (rest : List ℕ) → byte_at (b ∷ rest) ≡ Ok (b, rest)
unfolding byte_at
byte_again b rest = refl

pub text_takes : (n : ℕ) (bytes : List ℕ) (x : List ℕ × List ℕ) → AreBytes bytes → text_at n bytes ≡ Ok x → Takes bytes x.0 x.1 × (length x.0 ≡ n)
unfolding text_at
text_takes n bytes x fits e =
    let made : List ℕ × List ℕ = (take n bytes, drop n bytes) in
    let g = not_refused (ltb (length bytes) n) (flaw_at flaw.Cut bytes) (Ok made) x e in
    let long : n ≤ length bytes = ltb-false _ _ g.0 in
    subst (λ (y : List ℕ × List ℕ). Takes bytes y.0 y.1 × (length y.0 ≡ n)) (ok_is made x g.1)
    (record { parts = sym (take-append-drop n bytes); rest_fits = bytes_dropped n bytes fits }, omega (arith, length-take n bytes))

pub text_again : (text rest : List ℕ) → text_at (length text) (text ++ rest) ≡ Ok (text, rest)
unfolding text_at
text_again text rest =
    let long : ltb (length (text ++ rest)) (length text) ≡ false = le-ltb _ _ (omega (arith, length-append text rest)) in
    rw (long, take_at text rest (length text) refl, drop_at text rest (length text) refl) refl

-- Flags.

flag_takes : (bytes : List ℕ) (x : Bool × List ℕ) → AreBytes bytes → flag_at bytes ≡ Ok x → Takes bytes (flag x.0 ∷ []) x.1 × Unit {0}
unfolding flag_at
flag_takes [] x fits e = absurd cc
flag_takes (zero ∷ rest) x fits e =
    subst (λ (y : Bool × List ℕ). Takes (0 ∷ rest) (flag y.0 ∷ []) y.1 × Unit {0}) (ok_is (false, rest) x e) (record { parts = refl; rest_fits = bytes_behind 0 rest fits }, tt)
flag_takes (suc zero ∷ rest) x fits e =
    subst (λ (y : Bool × List ℕ). Takes (1 ∷ rest) (flag y.0 ∷ []) y.1 × Unit {0}) (ok_is (true, rest) x e) (record { parts = refl; rest_fits = bytes_behind 1 rest fits }, tt)
flag_takes (suc (suc b) ∷ rest) x fits e = absurd cc

flag_again : (b : Bool) (rest : List ℕ) → Unit {0} → flag_at (flag b ∷ [] ++ rest) ≡ Ok (b, rest)
unfolding flag_at
flag_again true rest good = refl
flag_again false rest good = refl

pub codec_flag : Codec flag_at (λ b. flag b ∷ []) (λ b. Unit {0})
codec_flag = record { takes = flag_takes; again = flag_again }
