-- Reading a key, by the tests that are made.
use Rattle.std.proofs.Common.{◌≡◌, ℕ, ◌≤◌, Bool, true, false, List, Ok, Err, refl}
use Rattle.std.proofs.lemmas.Bool.{le-ltb}
use Rattle.std.proofs.lemmas.Str.{IsUtf8-from_is_utf8, is_utf8-from_IsUtf8}
use Rattle.std.specs.Str.{IsUtf8, is_utf8}
use Rattle.jc_model.specs.Limits.{key_bytes}
use Rattle.jc_save.specs.declared.fault.Flaw.TheVariants as flaw
use Rattle.jc_save.specs.Reading.{byte_at, text_at, key_at, flaw_at}

pub key_good : (bytes rest text after : List ℕ) (n : ℕ) → byte_at bytes ≡ Ok (n, rest) → 1 ≤ n → n ≤ key_bytes → text_at n rest ≡ Ok (text, after) → IsUtf8 text → key_at bytes ≡ Ok (text, after)
unfolding key_at
key_good bytes rest text after n read low high took utf8 =
    rw (read, le-ltb n 1 low, le-ltb key_bytes n high, took, is_utf8-from_IsUtf8 text utf8) refl

pub is_false : (b : Bool) → (b ≡ true → ⊥) → b ≡ false
is_false true never = absurd (never refl)
is_false false never = refl

pub key_bad : (bytes rest text after : List ℕ) (n : ℕ) → byte_at bytes ≡ Ok (n, rest) → 1 ≤ n → n ≤ key_bytes → text_at n rest ≡ Ok (text, after) → (IsUtf8 text → ⊥) → key_at bytes ≡ Err (flaw_at flaw.KeyText rest)
unfolding key_at
key_bad bytes rest text after n read low high took never =
    rw (read, le-ltb n 1 low, le-ltb key_bytes n high, took, is_false (is_utf8 text) (λ is. never (IsUtf8-from_is_utf8 text is))) refl
