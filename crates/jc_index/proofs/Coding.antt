-- Rows and their words.
use Rattle.std.proofs.Common.{◌≡◌, ℕ, zero, suc, ◌+◌, ◌-◌, ◌*◌, ◌%◌, ◌^◌, ◌<◌, ◌≤◌, Bool, true, false, List, [], ◌∷◌, ◌++◌, length, take, drop, replicate, get_or, set, nat_lt, if◌then◌else◌, Option, Some, None, refl, sym, ap, ◌∙◌, arith, append_assoc, append-nil, length-append, length-drop}
use Rattle.std.specs.Int.{to_le_bytes, w64}
use Rattle.std.proofs.Math.Seq.{take-append_seam}
use Rattle.std.proofs.lemmas.Nat.{le_bytes_8}
use Rattle.jc_model.specs.Key.{bytes_of, first_words, word_at, words_of}
use Rattle.jc_model.specs.Limits.{key_bytes, key_words}
use Rattle.jc_model.specs.declared.config.Expiry.{Expiry}
use Rattle.jc_model.specs.declared.config.Expiry.TheVariants.{Never, At}
use Rattle.jc_index.specs.Stripes.{set_all}
use Rattle.jc_index.proofs.Opening.{taken_more}
use Rattle.jc_rows.specs.Images.{Shown}
use Rattle.jc_index.specs.Layout.{slot_place, slot_words}
use Rattle.jc_index.specs.Spelling.{IsCoded, bytes_in, key_of_words, slot_of, slot_in, words_of_slot, words_of_slots, slots_in, never_bit, moment_of}
use Rattle.jc_index.specs.Batches.{placed_at}

-- bytes

at_append : (P : ℕ → Type 0) (xs ys : List ℕ) (d : ℕ) → ((i : ℕ) → P (get_or xs i d)) → ((i : ℕ) → P (get_or ys i d)) → (i : ℕ) → P (get_or (xs ++ ys) i d)
at_append P [] ys d a b i = b i
at_append P (x ∷ xs) ys d a b zero = a 0
at_append P (x ∷ xs) ys d a b (suc i) = at_append P xs ys d (λ j. a (suc j)) b i

at_zeros : (n i : ℕ) → get_or (replicate n 0) i 0 < 256
at_zeros zero i = omega arith
at_zeros (suc n) zero = omega arith
at_zeros (suc n) (suc i) = at_zeros n i

at_drop : (n : ℕ) (xs : List ℕ) → ((i : ℕ) → get_or xs i 0 < 256) → (i : ℕ) → get_or (drop n xs) i 0 < 256
at_drop zero xs a i = a i
at_drop (suc n) [] a i = a i
at_drop (suc n) (x ∷ xs) a i = at_drop n xs (λ j. a (suc j)) i

at_take : (n : ℕ) (xs : List ℕ) → ((i : ℕ) → get_or xs i 0 < 256) → (i : ℕ) → get_or (take n xs) i 0 < 256
at_take zero xs a i = omega arith
at_take (suc n) [] a i = omega arith
at_take (suc n) (x ∷ xs) a zero = a 0
at_take (suc n) (x ∷ xs) a (suc i) = at_take n xs (λ j. a (suc j)) i

long_zeros : (n : ℕ) → length {A = ℕ} (replicate n 0) ≡ n
long_zeros zero = refl
long_zeros (suc n) = ap suc (long_zeros n)

long_take : (n : ℕ) (xs : List ℕ) → n ≤ length xs → length (take n xs) ≡ n
long_take zero xs h = refl
long_take (suc n) [] h = absurd (omega arith)
long_take (suc n) (x ∷ xs) h = ap suc (long_take n xs (omega arith))

take_none : (n : ℕ) → take {A = ℕ} n [] ≡ []
take_none zero = refl
take_none (suc n) = refl

drop_none : (n : ℕ) → drop {A = ℕ} n [] ≡ []
drop_none zero = refl
drop_none (suc n) = refl

pub drop_drop : (n m k : ℕ) (xs : List ℕ) → k ≡ m + n → drop n (drop m xs) ≡ drop k xs
drop_drop n zero k xs e = let f : n ≡ k = omega (arith, e) in ap (λ (i : ℕ). drop i xs) f
drop_drop n (suc m) zero xs e = absurd (omega (arith, e))
drop_drop n (suc m) (suc k) [] e = drop_none n
drop_drop n (suc m) (suc k) (x ∷ xs) e = drop_drop n m k xs (omega (arith, e))

take_long : (n : ℕ) (xs : List ℕ) → length xs ≤ n → take n xs ≡ xs
take_long zero [] h = refl
take_long zero (x ∷ xs) h = absurd (omega arith)
take_long (suc n) [] h = refl
take_long (suc n) (x ∷ xs) h = ap (λ l. x ∷ l) (take_long n xs (omega arith))

word_back : (n : ℕ) (bs : List ℕ) → 8 * n + 8 ≤ length bs → ((i : ℕ) → get_or bs i 0 < 256) → to_le_bytes w64 (word_at n bs) ≡ take 8 (drop (8 * n) bs)
word_back n bs inside small = le_bytes_8 (take 8 (drop (8 * n) bs)) (word_at n bs) (long_take 8 (drop (8 * n) bs) (omega (arith, length-drop (8 * n) bs))) (at_take 8 (drop (8 * n) bs) (at_drop (8 * n) bs small)) refl

bytes_more : (ws : List ℕ) (w : ℕ) → bytes_in (ws ++ w ∷ []) ≡ bytes_in ws ++ to_le_bytes w64 w
bytes_more [] w = append-nil (to_le_bytes w64 w)
bytes_more (v ∷ ws) w = ap (λ l. to_le_bytes w64 v ++ l) (bytes_more ws w) ∙ sym (append_assoc (to_le_bytes w64 v) (bytes_in ws) (to_le_bytes w64 w))

take_more : (n m k : ℕ) (xs : List ℕ) → k ≡ n + m → take n xs ++ take m (drop n xs) ≡ take k xs
take_more zero m k xs e = let f : m ≡ k = omega (arith, e) in ap (λ (i : ℕ). take i xs) f
take_more (suc n) m zero xs e = absurd (omega (arith, e))
take_more (suc n) m (suc k) [] e = take_none m
take_more (suc n) m (suc k) (x ∷ xs) e = ap (λ l. x ∷ l) (take_more n m k xs (omega (arith, e)))

-- the first words spell the first bytes
bytes_back : (n : ℕ) (bs : List ℕ) → 8 * n ≤ length bs → ((i : ℕ) → get_or bs i 0 < 256) → bytes_in (first_words n bs) ≡ take (8 * n) bs
bytes_back zero bs inside small = refl
bytes_back (suc n) bs inside small =
    bytes_more (first_words n bs) (word_at n bs)
    ∙ ((λ i. bytes_back n bs (omega (arith, inside)) small i ++ word_back n bs (omega (arith, inside)) small i) ∙ take_more (8 * n) 8 (8 * suc n) bs (omega arith))

small_head : (n : ℕ) (text : List ℕ) → n < 256 → ((i : ℕ) → get_or text i 0 < 256) → (i : ℕ) → get_or (n ∷ text) i 0 < 256
small_head n text few small zero = few
small_head n text few small (suc i) = small i

-- a key's words spell its length, and it
words_back : (text : List ℕ) → length text ≤ key_bytes → ((i : ℕ) → get_or text i 0 < 256) → bytes_in (words_of text) ≡ bytes_of text
words_back text few small =
    let zeros : List ℕ = replicate (key_bytes - length text) 0 in
    let bs : List ℕ = bytes_of text in
    let long : length bs ≡ 8 * key_words = omega (arith, length-append text zeros, long_zeros (key_bytes - length text)) in
    let all : (i : ℕ) → get_or bs i 0 < 256 = small_head (length text) (text ++ zeros) (omega arith) (at_append (λ x. x < 256) text zeros 0 small (at_zeros (key_bytes - length text))) in
    bytes_back key_words bs (omega (arith, long)) all ∙ take_long (8 * key_words) bs (omega (arith, long))

pub length_back : (text : List ℕ) → length text ≤ key_bytes → ((i : ℕ) → get_or text i 0 < 256) → get_or (bytes_in (words_of text)) 0 0 ≡ length text
length_back text few small = ap (λ (l : List ℕ). get_or l 0 0) (words_back text few small)

pub key_back : (text : List ℕ) → length text ≤ key_bytes → ((i : ℕ) → get_or text i 0 < 256) → key_of_words (words_of text) ≡ text
key_back text few small =
    ap (λ (l : List ℕ). take (get_or l 0 0) (drop 1 l)) (words_back text few small) ∙ take-append_seam text (replicate (key_bytes - length text) 0)

-- and the first of them alone do so, as far as they have it
take_past : (xs ys : List ℕ) (k n : ℕ) → n ≡ length xs + k → take n (xs ++ ys) ≡ xs ++ take k ys
take_past [] ys k n e = let f : n ≡ k = omega (arith, e) in ap (λ (i : ℕ). take i ys) f
take_past (x ∷ xs) ys k zero e = absurd (omega (arith, e))
take_past (x ∷ xs) ys k (suc n) e = ap (λ l. x ∷ l) (take_past xs ys k n (omega (arith, e)))

bytes_take : (c : ℕ) (ws : List ℕ) → take (8 * c) (bytes_in ws) ≡ bytes_in (take c ws)
bytes_take zero ws = refl
bytes_take (suc c) [] = take_none (8 * suc c)
bytes_take (suc c) (w ∷ ws) = take_past (to_le_bytes w64 w) (bytes_in ws) (8 * c) (8 * suc c) (omega arith) ∙ ap (λ l. to_le_bytes w64 w ++ l) (bytes_take c ws)

take_take : (n m : ℕ) (xs : List ℕ) → n ≤ m → take n (take m xs) ≡ take n xs
take_take zero m xs h = refl
take_take (suc n) zero xs h = absurd (omega arith)
take_take (suc n) (suc m) [] h = refl
take_take (suc n) (suc m) (x ∷ xs) h = ap (λ l. x ∷ l) (take_take n m xs (omega arith))

read_alike : (us vs : List ℕ) (m : ℕ) → take m us ≡ take m vs → get_or vs 0 0 < m → take (get_or us 0 0) (drop 1 us) ≡ take (get_or vs 0 0) (drop 1 vs)
read_alike us vs zero same inside = absurd (omega arith)
read_alike [] [] (suc m) same inside = refl
read_alike [] (y ∷ ys) (suc m) same inside = absurd cc
read_alike (x ∷ xs) [] (suc m) same inside = absurd cc
read_alike (x ∷ xs) (y ∷ ys) (suc m) same inside =
    let first : x ≡ y = cc same in
    let rest : take m xs ≡ take m ys = cc same in
    ap (λ (n : ℕ). take n xs) first ∙ (sym (take_take y m xs (omega arith)) ∙ (ap (take y) rest ∙ take_take y m ys (omega arith)))

pub alike_back : (us ws : List ℕ) (c : ℕ) → take c us ≡ take c ws → get_or (bytes_in ws) 0 0 < 8 * c → key_of_words us ≡ key_of_words ws
alike_back us ws c same inside = read_alike (bytes_in us) (bytes_in ws) (8 * c) (bytes_take c us ∙ (ap bytes_in same ∙ sym (bytes_take c ws))) inside

lt_true : (a b : ℕ) → a < b → nat_lt a b ≡ true
lt_true a b h = grind arith

lt_false : (a b : ℕ) → b ≤ a → nat_lt a b ≡ false
lt_false a b h = grind arith

coded_by : (h : Shown) (first : ℕ) (e : Expiry) → h.1 ≡ e → first ≡ never_bit e + h.0.0 → h.0.0 + 1 < 2 ^ 33 → key_of_words (words_of h.0.1) ≡ h.0.1 → slot_of (suc first) (words_of h.0.1) (moment_of e) ≡ Some h
coded_by h first Never is from few key =
    let number : suc first % 2 ^ 33 - 1 ≡ h.0.0 = omega arith in
    let no : nat_lt (suc first) (2 ^ 33) ≡ false = lt_false (suc first) (2 ^ 33) (omega arith) in
    λ i. Some ((number i, key i), (ap (λ (b : Bool). if b then At 0 else Never) no ∙ sym is) i)
coded_by h first (At m) is from few key =
    let number : suc first % 2 ^ 33 - 1 ≡ h.0.0 = omega arith in
    let yes : nat_lt (suc first) (2 ^ 33) ≡ true = lt_true (suc first) (2 ^ 33) (omega arith) in
    λ i. Some ((number i, key i), (ap (λ (b : Bool). if b then At m else Never) yes ∙ sym is) i)

-- a row's words spell it
pub coded_held : (h : Shown) → h.0.0 + 1 < 2 ^ 33 → key_of_words (words_of h.0.1) ≡ h.0.1 → IsCoded (Some h)
coded_held h few key =
    let e : never_bit h.1 + (h.0.0 + 1) ≡ suc (never_bit h.1 + h.0.0) = omega arith in
    ap (λ (n : ℕ). slot_of n (words_of h.0.1) (moment_of h.1)) e ∙ coded_by h (never_bit h.1 + h.0.0) h.1 refl refl few key

-- words at places that follow one another
placed_snoc : (p q : ℕ) (vs : List ℕ) (v : ℕ) → q ≡ p + length vs → placed_at p (vs ++ v ∷ []) ≡ placed_at p vs ++ (q, v) ∷ []
placed_snoc p q [] v e = let f : p ≡ q = omega (arith, e) in ap (λ (i : ℕ). (i, v) ∷ []) f
placed_snoc p q (w ∷ vs) v e = ap (λ l. (p, w) ∷ l) (placed_snoc (p + 1) q vs v (omega (arith, e)))

pub placed_more : (p : ℕ) (vs : List ℕ) (k : ℕ) → k < length vs → placed_at p (take (k + 1) vs) ≡ placed_at p (take k vs) ++ (p + k, get_or vs k 0) ∷ []
placed_more p vs k inside = ap (placed_at p) (taken_more vs k 0 inside) ∙ placed_snoc p (p + k) (take k vs) (get_or vs k 0) (omega (arith, long_take k vs (omega arith)))

-- the words of one slot are set
set_skip : (p : ℕ) (vs : List ℕ) (y : ℕ) (xs : List ℕ) (q : ℕ) → q ≡ p + 1 → set_all (y ∷ xs) (placed_at q vs) ≡ y ∷ set_all xs (placed_at p vs)
set_skip p [] y xs q e = refl
set_skip p (v ∷ vs) y xs zero e = absurd (omega (arith, e))
set_skip p (v ∷ vs) y xs (suc q) e = let f : q ≡ p = omega (arith, e) in
    set_skip (p + 1) vs y (set xs q v) (suc q + 1) (omega (arith, e)) ∙ ap (λ (i : ℕ). y ∷ set_all (set xs i v) (placed_at (p + 1) vs)) f

skip_all : (ys : List ℕ) (p : ℕ) (vs xs : List ℕ) (q : ℕ) → q ≡ length ys + p → set_all (ys ++ xs) (placed_at q vs) ≡ ys ++ set_all xs (placed_at p vs)
skip_all [] p vs xs q e = let f : q ≡ p = omega (arith, e) in ap (λ (i : ℕ). set_all xs (placed_at i vs)) f
skip_all (y ∷ ys) p vs xs q e = set_skip (q - 1) vs y (ys ++ xs) q (omega (arith, e)) ∙ ap (λ l. y ∷ l) (skip_all ys p vs xs (q - 1) (omega (arith, e)))

set_over : (vs ys xs : List ℕ) → length vs ≡ length ys → set_all (ys ++ xs) (placed_at 0 vs) ≡ vs ++ xs
set_over [] [] xs e = refl
set_over [] (y ∷ ys) xs e = absurd (omega (arith, e))
set_over (v ∷ vs) [] xs e = absurd (omega (arith, e))
set_over (v ∷ vs) (y ∷ ys) xs e = set_skip 0 vs v (ys ++ xs) (0 + 1) (omega arith) ∙ ap (λ l. v ∷ l) (set_over vs ys xs (omega (arith, e)))

pub long_slot : (x : Option Shown) → length (words_of_slot x) ≡ slot_words
long_slot None = refl
long_slot (Some h) = refl

pub long_slots : (xs : List (Option Shown)) → length (words_of_slots xs) ≡ slot_words * length xs
long_slots [] = refl
long_slots (x ∷ xs) = omega (arith, length-append (words_of_slot x) (words_of_slots xs), long_slot x, long_slots xs)

pub slot_set : (xs : List (Option Shown)) (s p : ℕ) (x : Option Shown) → p ≡ slot_words * s → s < length xs → set_all (words_of_slots xs) (placed_at p (words_of_slot x)) ≡ words_of_slots (set xs s x)
slot_set [] s p x e inside = absurd (omega arith)
slot_set (y ∷ xs) zero p x e inside = let f : p ≡ 0 = omega (arith, e) in
    ap (λ (i : ℕ). set_all (words_of_slot y ++ words_of_slots xs) (placed_at i (words_of_slot x))) f ∙ set_over (words_of_slot x) (words_of_slot y) (words_of_slots xs) (long_slot x ∙ sym (long_slot y))
slot_set (y ∷ xs) (suc s) p x e inside =
    skip_all (words_of_slot y) (p - slot_words) (words_of_slot x) (words_of_slots xs) p (omega (arith, e, long_slot y)) ∙ ap (λ l. words_of_slot y ++ l) (slot_set xs s (p - slot_words) x (omega (arith, e)) (omega arith))

-- the words of one slot are set in an image
pub image_set : (n : ℕ) (xs : List (Option Shown)) (s p : ℕ) (x : Option Shown) → p ≡ slot_place s → s < length xs → set_all (n ∷ words_of_slots xs) (placed_at p (words_of_slot x)) ≡ n ∷ words_of_slots (set xs s x)
image_set n xs s p x e inside = set_skip (slot_words * s) (words_of_slot x) n (words_of_slots xs) p e ∙ ap (λ l. n ∷ l) (slot_set xs s (slot_words * s) x refl inside)

-- the words of the first slot, and the rest
first_slot : (x : Option Shown) (ws : List ℕ) → take slot_words (words_of_slot x ++ ws) ≡ words_of_slot x
first_slot None ws = refl
first_slot (Some h) ws = refl

other_slots : (x : Option Shown) (ws : List ℕ) → drop slot_words (words_of_slot x ++ ws) ≡ ws
other_slots None ws = refl
other_slots (Some h) ws = refl

abbrev pub AllCoded : List (Option Shown) → Type 0
AllCoded [] = Unit {0}
AllCoded (x ∷ xs) = IsCoded x × AllCoded xs

-- coded slots are read back
pub coded_back : (xs : List (Option Shown)) (n : ℕ) → n ≡ length xs → AllCoded xs → slots_in n (words_of_slots xs) ≡ xs
coded_back [] zero e a = refl
coded_back [] (suc n) e a = absurd (omega (arith, e))
coded_back (x ∷ xs) zero e a = absurd (omega (arith, e))
coded_back (x ∷ xs) (suc n) e a =
    let ws : List ℕ = words_of_slots xs in
    λ i. (ap slot_in (first_slot x ws) ∙ a.0) i ∷ (ap (slots_in n) (other_slots x ws) ∙ coded_back xs n (omega (arith, e)) a.1) i

pub back_coded : (xs : List (Option Shown)) (n : ℕ) → slots_in n (words_of_slots xs) ≡ xs → AllCoded xs
back_coded [] n e = tt
back_coded (x ∷ xs) zero e = absurd cc
back_coded (x ∷ xs) (suc n) e =
    let ws : List ℕ = words_of_slots xs in
    let both : slot_in (words_of_slot x) ∷ slots_in n ws ≡ x ∷ xs = (λ i. slot_in (sym (first_slot x ws) i) ∷ slots_in n (sym (other_slots x ws) i)) ∙ e in (cc both, back_coded xs n (cc both))

-- the words of a slot, by its number
pub slot_taken : (xs : List (Option Shown)) (k : ℕ) → k < length xs → take slot_words (drop (slot_words * k) (words_of_slots xs)) ≡ words_of_slot (get_or xs k None)
slot_taken [] k inside = absurd (omega arith)
slot_taken (x ∷ xs) zero inside = first_slot x (words_of_slots xs)
slot_taken (x ∷ xs) (suc k) inside =
    ap (take slot_words) (sym (drop_drop (slot_words * k) slot_words (slot_words * suc k) (words_of_slot x ++ words_of_slots xs) (omega arith)) ∙ ap (drop (slot_words * k)) (other_slots x (words_of_slots xs))) ∙ slot_taken xs k (omega arith)

pub coded_set : (xs : List (Option Shown)) (s : ℕ) (x : Option Shown) → IsCoded x → AllCoded xs → AllCoded (set xs s x)
coded_set [] s x k a = tt
coded_set (y ∷ xs) zero x k a = (k, a.1)
coded_set (y ∷ xs) (suc s) x k a = (a.0, coded_set xs s x k a.1)
