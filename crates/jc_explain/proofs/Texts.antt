-- Bytes that may be text.
use Rattle.std.proofs.Common.{◌≡◌, ℕ, List, true, false, refl, ap, ◌∙◌, codes}
use Rattle.std.specs.Str.{IsUtf8, is_utf8}
use Rattle.std.proofs.lemmas.Str.{IsUtf8-from_is_utf8, is_utf8-from_IsUtf8}
use Rattle.jc_explain.specs.Lines.{text_shown}
use Rattle.jc_explain.specs.Trace.{text_or_not}

pub not_utf8 : (bytes : List ℕ) → ¬ (IsUtf8 bytes) → is_utf8 bytes ≡ false
not_utf8 bytes none = elim (is_utf8 bytes) as (λ b. is_utf8 bytes ≡ b → b ≡ false) [ true ↦ λ e. absurd (none (IsUtf8-from_is_utf8 bytes e)) | false ↦ λ e. refl ] refl

pub shown_text : (bytes text shown : List ℕ) → text ≡ bytes → IsUtf8 bytes → shown ≡ text_shown text → shown ≡ text_or_not bytes
shown_text bytes text shown same utf8 is = rw (is_utf8-from_IsUtf8 bytes utf8) (is ∙ ap text_shown same)

pub shown_not : (bytes shown : List ℕ) → ¬ (IsUtf8 bytes) → shown ≡ codes "not UTF-8" → shown ≡ text_or_not bytes
shown_not bytes shown none is = rw (not_utf8 bytes none) is
