-- What a value's text is, by what it is.
use Rattle.std.proofs.Common.{◌≡◌, ℕ, List, ◌++◌, true, false, refl, codes}
use Rattle.std.specs.Prelude.{IsUtf8, if◌then◌else◌}
use Rattle.std.specs.Str.{is_utf8}
use Rattle.std.proofs.lemmas.Str.{IsUtf8-from_is_utf8, is_utf8-from_IsUtf8}
use Rattle.json.specs.Print.{quoted}
use Rattle.hex.specs.Hex.{encode_lower}
use Rattle.jc_report.specs.Report.{bytes_text}

pub of_text : (bytes : List ℕ) → IsUtf8 bytes → bytes_text bytes ≡ quoted bytes
unfolding bytes_text
of_text bytes utf8 = rw (is_utf8-from_IsUtf8 bytes utf8) refl

pub of_bytes : (bytes : List ℕ) → (IsUtf8 bytes → ⊥) → bytes_text bytes ≡ codes "hex:" ++ encode_lower bytes
unfolding bytes_text
of_bytes bytes none =
    elim (is_utf8 bytes) as (λ b. is_utf8 bytes ≡ b → (if b then quoted bytes else codes "hex:" ++ encode_lower bytes) ≡ codes "hex:" ++ encode_lower bytes) [ true ↦ λ e. absurd (none (IsUtf8-from_is_utf8 bytes e)) | false ↦ λ e. refl ] refl
