-- Which bytes are keys.
use Rattle.std.proofs.Common.{◌≡◌, ◌≤◌, ◌<◌, ℕ, Bool, true, false, ◌&&◌, not, ltb, if◌then◌else◌, Ok, Err, List, [], ◌∷◌, length, refl, sym, ap, ◌∙◌, arith}
use Rattle.std.proofs.lemmas.Bool.Decides.{nat_tests}
use Rattle.std.proofs.lemmas.Str.{IsUtf8-from_is_utf8, is_utf8-from_IsUtf8}
use Rattle.std.specs.Str.{IsUtf8, is_utf8}
use Rattle.jc_model.specs.Limits.{key_bytes}
use Rattle.jc_c.specs.declared.status.Fault.TheVariants.{BadKey}
use Rattle.jc_c.specs.Reading.{key_said}

-- by the three tests
by_tests : (bytes : List ℕ) (a b c : Bool) → a ≡ true → b ≡ true → c ≡ false → (if a && b && not c then Ok bytes else Err BadKey) ≡ Ok bytes
by_tests bytes a b c p q r = rw (p, q, r) refl

pub good : (bytes : List ℕ) → IsUtf8 bytes → 1 ≤ length bytes → length bytes ≤ key_bytes → key_said bytes ≡ Ok bytes
good bytes utf8 some few = by_tests bytes (is_utf8 bytes) (ltb 0 (length bytes)) (ltb key_bytes (length bytes)) (is_utf8-from_IsUtf8 bytes utf8) (grind (arith, nat_tests, some)) (grind (arith, nat_tests, few))

no_text : (bytes : List ℕ) (b c : Bool) (a : Bool) → (a ≡ true → ⊥) → (if a && b && c then Ok bytes else Err BadKey) ≡ Err BadKey
no_text bytes b c true never = absurd (never refl)
no_text bytes b c false never = refl

pub bad : (bytes : List ℕ) → (IsUtf8 bytes → ⊥) → key_said bytes ≡ Err BadKey
bad bytes never = no_text bytes (ltb 0 (length bytes)) (not (ltb key_bytes (length bytes))) (is_utf8 bytes) (λ is. never (IsUtf8-from_is_utf8 bytes is))

nonempty : (bytes : List ℕ) → (bytes ≡ [] → ⊥) → 1 ≤ length bytes
nonempty [] never = absurd (never refl)
nonempty (b ∷ bytes) never = omega arith

-- a key was made of a text
pub made : (bytes key : List ℕ) → IsUtf8 bytes → (bytes ≡ [] → ⊥) → (key_bytes < length bytes → ⊥) → (1 ≤ length bytes → length bytes ≤ key_bytes → key ≡ bytes) → Ok key ≡ key_said bytes
made bytes key utf8 some few is =
    let low : 1 ≤ length bytes = nonempty bytes some in
    let high : length bytes ≤ key_bytes = omega (arith, few) in
    ap Ok (is low high) ∙ sym (good bytes utf8 low high)
