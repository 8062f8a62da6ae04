-- Words that are no text.
use Rattle.std.proofs.Common.{◌≡◌, ◌<◌, ◌≤◌, ◌+◌, ℕ, String, Global, string_bytes, option_map, IfSome, zero, suc, Bool, true, false, List, [], ◌∷◌, ◌++◌, Option, Some, None, Bor, length, take, drop, refl, sym, ap, ◌∙◌, arith, append_assoc, length-append, length-drop, inl, inr}
use Rattle.std.specs.Prelude.{◌==◌, if◌then◌else◌, nat_lt, slice_index, slice_index_or, unwrap_or}
use Rattle.std.specs.Int.{is_in_range}
use Rattle.std.specs.Str.{IsUtf8, is_utf8}
use Rattle.std.specs.Str.Lossy.{utf8_valid_len, utf8_error_len, utf8_invalid_len, error_len_after_one, error_len_after_two, second_byte_min, second_byte_max, after_first_chunk}
use Rattle.std.proofs.lemmas.Bool.{eq-eqb, ne_eqb}
use Rattle.std.proofs.lemmas.Bool.Decides.{eqb_tells}
use Rattle.std.proofs.lemmas.List.{append-nil, drop_at, take_at}
use Rattle.std.proofs.lemmas.Str.{IsUtf8-from_is_utf8, is_utf8-from_IsUtf8, utf8_valid_len_le}
use Rattle.jc_cli.specs.NoText.{bytes_shown, invalid_of, shown_within, word_shown, no_text_from, no_text_mistake, IsToldOfWords}
use Rattle.jc_cli.specs.Program.{texts_lent}

-- The first word that is no text.

not_utf8 : (bytes : List ℕ) → ¬ (IsUtf8 bytes) → is_utf8 bytes ≡ false
not_utf8 bytes none = elim (is_utf8 bytes) as (λ b. is_utf8 bytes ≡ b → b ≡ false) [ true ↦ λ e. absurd (none (IsUtf8-from_is_utf8 bytes e)) | false ↦ λ e. refl ] refl

pub passed : (n k : ℕ) (d : Bor (List ℕ)) (ws : List (Bor (List ℕ))) → k < length ws → IsUtf8 (slice_index_or ws k d).now → no_text_from n (texts_lent (drop k ws)) ≡ no_text_from (n + 1) (texts_lent (drop (k + 1) ws))
passed n k d [] below utf8 = absurd (omega (arith, below))
passed n zero d (w ∷ ws) below utf8 = rw (is_utf8-from_IsUtf8 w.now utf8) refl
passed n (suc k) d (w ∷ ws) below utf8 =
    let e : suc k + 1 ≡ suc (k + 1) = omega arith in
    rw e (passed n k d ws (omega (arith, below)) utf8)

pub met : (n k : ℕ) (d : Bor (List ℕ)) (ws : List (Bor (List ℕ))) → k < length ws → ¬ (IsUtf8 (slice_index_or ws k d).now) → no_text_from n (texts_lent (drop k ws)) ≡ Some (n, (slice_index_or ws k d).now)
met n k d [] below none = absurd (omega (arith, below))
met n zero d (w ∷ ws) below none = rw (not_utf8 w.now none) refl
met n (suc k) d (w ∷ ws) below none = met n k d ws (omega (arith, below)) none

-- A word that is shown.

both_ways : (P : Option ℕ → Type 0) (b : Bool) (x y : Option ℕ) → P x → P y → P (if b then x else y)
both_ways P true x y px py = px
both_ways P false x y px py = py

-- an invalid sequence has a byte, where there is one
invalid_has_byte : (bs : List ℕ) → 0 < length bs → 0 < utf8_invalid_len bs
unfolding utf8_error_len
invalid_has_byte bs some =
    let P : Option ℕ → Type 0 = λ o. 0 < unwrap_or o (length bs) in
    let one : P (Some 1) = omega arith in
    let two : P (Some 2) = omega arith in
    let three : P (Some 3) = omega arith in
    let last = both_ways P (nat_lt (length bs) 4) None (Some 3) some three in
    let third = both_ways P (is_in_range 0x80 0xBF (slice_index bs 2)) _ (Some 2) last two in
    let after_two : P (error_len_after_two bs) = both_ways P (nat_lt (length bs) 3) None _ some third in
    let x = slice_index bs 0 in
    let second = both_ways P (is_in_range (second_byte_min x) (second_byte_max x) (slice_index bs 1)) _ (Some 1) after_two one in
    let after_one : P (error_len_after_one bs) = both_ways P (nat_lt (length bs) 2) None _ some second in
    both_ways P (length bs == 0) None _ some (both_ways P (is_in_range 0xC2 0xF4 x) _ (Some 1) after_one one)

goes_down : (bs : List ℕ) → ¬ (utf8_valid_len bs ≡ length bs) → length (after_first_chunk bs) < length bs
goes_down bs faulty =
    let n = utf8_valid_len bs in
    let within = utf8_valid_len_le bs in
    let invalid = invalid_has_byte (drop n bs) (omega (arith, length-drop n bs)) in
    omega (arith, length-drop (n + utf8_invalid_len (drop n bs)) bs)

-- the first chunk's text, its other bytes, and what follows
abbrev chunked : List ℕ → List ℕ → List ℕ
chunked bs later = take (utf8_valid_len bs) bs ++ (bytes_shown (invalid_of bs) ++ later)

within_text : (k : ℕ) (bs : List ℕ) → utf8_valid_len bs ≡ length bs → shown_within k bs ≡ bs
within_text zero bs whole = refl
within_text (suc k) bs whole = rw (eq-eqb _ _ whole) refl

within_fault : (k : ℕ) (bs : List ℕ) → ¬ (utf8_valid_len bs ≡ length bs) → shown_within (suc k) bs ≡ chunked bs (shown_within k (after_first_chunk bs))
within_fault k bs faulty = rw (ne_eqb _ _ faulty) refl

-- any bound from the length up gives the same
within_any : (k j : ℕ) (bs : List ℕ) → length bs ≤ k → length bs ≤ j → shown_within k bs ≡ shown_within j bs
within_any zero j bs p q = let within = utf8_valid_len_le bs in sym (within_text j bs (omega arith))
within_any (suc k) zero bs p q = let within = utf8_valid_len_le bs in within_text (suc k) bs (omega arith)
within_any (suc k) (suc j) bs p q = elim (eqb_tells (utf8_valid_len bs) (length bs)) [
  | inl whole ↦ within_text (suc k) bs whole.1 ∙ sym (within_text (suc j) bs whole.1)
  | inr faulty ↦
      let less = goes_down bs faulty.1 in
      within_fault k bs faulty.1 ∙ ap (chunked bs) (within_any k j _ (omega arith) (omega arith)) ∙ sym (within_fault j bs faulty.1)
]

shown_step : (bs : List ℕ) → ¬ (utf8_valid_len bs ≡ length bs) → word_shown bs ≡ chunked bs (word_shown (after_first_chunk bs))
unfolding word_shown
shown_step bs faulty =
    let less = goes_down bs faulty in
    within_any (length bs) (suc (length bs)) bs (omega arith) (omega arith) ∙ within_fault (length bs) bs faulty
    ∙ ap (chunked bs) (within_any (length bs) (length (after_first_chunk bs)) (after_first_chunk bs) (omega arith) (omega arith))

nothing : (bs : List ℕ) → length bs ≡ 0 → bs ≡ []
nothing [] none = refl
nothing (b ∷ bs) none = absurd (omega (arith, none))

pub none_shown : (bs : List ℕ) → length bs ≡ 0 → word_shown bs ≡ []
unfolding word_shown
none_shown bs none = ap word_shown (nothing bs none)

-- a chunk that has bytes which are no text
faulty_chunk : (bs valid invalid rest : List ℕ) → bs ≡ valid ++ (invalid ++ rest) → length valid ≡ utf8_valid_len bs
    → length invalid ≡ utf8_invalid_len (drop (utf8_valid_len bs) bs) → 0 < length invalid
    → word_shown bs ≡ valid ++ (bytes_shown invalid ++ word_shown rest)
faulty_chunk bs valid invalid rest parts valid_len invalid_len some =
    let n = utf8_valid_len bs in
    let total = ap length parts ∙ length-append valid (invalid ++ rest) in
    let faulty : ¬ (n ≡ length bs) = omega (arith, length-append invalid rest) in
    let front : take n bs ≡ valid = ap (take n) parts ∙ take_at valid _ n valid_len in
    let behind : drop n bs ≡ invalid ++ rest = ap (drop n) parts ∙ drop_at valid _ n valid_len in
    let middle : invalid_of bs ≡ invalid = ap (take (utf8_invalid_len (drop n bs))) behind ∙ take_at invalid rest _ invalid_len in
    let both_len : length (valid ++ invalid) ≡ n + utf8_invalid_len (drop n bs) = omega (arith, length-append valid invalid) in
    let back : after_first_chunk bs ≡ rest =
    ap (drop (n + utf8_invalid_len (drop n bs))) (parts ∙ sym (append_assoc valid invalid rest)) ∙ drop_at _ rest _ both_len in
    shown_step bs faulty ∙ (λ i. front i ++ (bytes_shown (middle i) ++ word_shown (back i)))

-- the last chunk, where it has none
last_chunk : (bs valid invalid rest : List ℕ) → bs ≡ valid ++ (invalid ++ rest) → length valid ≡ utf8_valid_len bs
    → length invalid ≡ 0 → length rest ≡ 0 → word_shown bs ≡ valid ++ (bytes_shown invalid ++ word_shown rest)
unfolding word_shown
last_chunk bs valid invalid rest parts valid_len no_invalid no_rest =
    let no_bytes = nothing invalid no_invalid in
    let no_more = nothing rest no_rest in
    let whole : bs ≡ valid ++ [] = parts ∙ (λ i. valid ++ (no_bytes i ++ no_more i)) in
    let long = ap length (whole ∙ append-nil valid) in
    within_text (length bs) bs (omega arith) ∙ whole ∙ sym (λ i. valid ++ (bytes_shown (no_bytes i) ++ word_shown (no_more i)))

-- the first chunk of `utf8_chunks`, which is the last where it has no bytes that are no text
pub chunk_shown : (bs valid invalid rest : List ℕ) → bs ≡ valid ++ (invalid ++ rest) → length valid ≡ utf8_valid_len bs
    → length invalid ≡ utf8_invalid_len (drop (utf8_valid_len bs) bs) → (length invalid ≡ 0 → length rest ≡ 0)
    → word_shown bs ≡ valid ++ (bytes_shown invalid ++ word_shown rest)
chunk_shown bs valid invalid rest parts valid_len invalid_len no_more = elim (eqb_tells (length invalid) 0) [
  | inl none ↦ last_chunk bs valid invalid rest parts valid_len none.1 (no_more none.1)
  | inr some ↦ let differ = some.1 in faulty_chunk bs valid invalid rest parts valid_len invalid_len (omega arith)
]

-- What is told.

pub told_of_some : (at_terminal : Bool) (ws : List (List ℕ)) (told : Option (String Global)) → option_map string_bytes told ≡ no_text_mistake at_terminal ws → IfSome told (λ s. IsToldOfWords (string_bytes s))
told_of_some at_terminal ws None e = tt
told_of_some at_terminal ws (Some s) e = record { at_terminal = at_terminal; words = ws; is = sym e }
