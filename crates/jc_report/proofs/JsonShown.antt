-- What a value is as JSON, by what it is.
use Rattle.std.proofs.Common.{◌≡◌, ℕ, List, ◌++◌, true, false, refl, codes}
use Rattle.std.specs.Prelude.{IsUtf8, if◌then◌else◌}
use Rattle.std.specs.Str.{is_utf8}
use Rattle.std.proofs.lemmas.Str.{IsUtf8-from_is_utf8, is_utf8-from_IsUtf8}
use Rattle.json.specs.Print.{quoted}
use Rattle.hex.specs.Hex.{encode_lower}
use Rattle.jc_report.specs.Values.{bytes_json}

pub of_text : (bytes : List ℕ) → IsUtf8 bytes → bytes_json bytes ≡ quoted bytes
unfolding bytes_json
of_text bytes utf8 = rw (is_utf8-from_IsUtf8 bytes utf8) refl

abbrev digits : List ℕ → List ℕ
digits bytes = codes "{\"hex\":\"" ++ encode_lower bytes ++ codes "\"}"

pub of_bytes : (bytes : List ℕ) → (IsUtf8 bytes → ⊥) → bytes_json bytes ≡ codes "{\"hex\":\"" ++ encode_lower bytes ++ codes "\"}"
unfolding bytes_json
of_bytes bytes none =
    elim (is_utf8 bytes) as (λ b. is_utf8 bytes ≡ b → (if b then quoted bytes else digits bytes) ≡ digits bytes) [ true ↦ λ e. absurd (none (IsUtf8-from_is_utf8 bytes e)) | false ↦ λ e. refl ] refl
