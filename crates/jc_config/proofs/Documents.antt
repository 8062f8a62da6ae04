-- A document, by whether its bytes are text, and its keys.
use Rattle.std.proofs.Common.{◌≡◌, ℕ, List, [], ◌∷◌, Bool, true, false, Option, None, refl, sym, ap, map, String, Global, string_bytes}
use Rattle.std.specs.Prelude.{IsUtf8, if◌then◌else◌, ◌&&◌}
use Rattle.std.specs.List.{list_all}
use Rattle.std.specs.Str.{is_utf8}
use Rattle.std.proofs.lemmas.Str.{IsUtf8-from_is_utf8, is_utf8-from_IsUtf8}
use Rattle.toml.specs.Data.{Members}
use Rattle.toml.specs.View.{members_view}
use Rattle.toml.specs.Parse.{parse_document}
use Rattle.toml.specs.declared.value.Value.{Value}
use Rattle.jc_config.specs.Config.{document_of}
use Rattle.jc_config.specs.Members.{table_members_are}

pub document_is : (bytes : List ℕ) → IsUtf8 bytes → (o : Option Members) → parse_document bytes ≡ o → o ≡ document_of bytes
unfolding document_of
document_is bytes utf8 o e = rw (is_utf8-from_IsUtf8 bytes utf8) (sym e)

pub no_document : (bytes : List ℕ) → (IsUtf8 bytes → ⊥) → None ≡ document_of bytes
unfolding document_of
no_document bytes none =
    elim (is_utf8 bytes) as (λ b. is_utf8 bytes ≡ b → None ≡ (if b then parse_document bytes else None)) [ true ↦ λ e. absurd (none (IsUtf8-from_is_utf8 bytes e)) | false ↦ λ e. refl ] refl

pub known_keys : (known : List ℕ → Bool) (es : List (String Global × Value)) → list_all (λ k. known (string_bytes k)) (map (λ e. e.0) es) ≡ table_members_are known (members_view es)
known_keys known [] = refl
known_keys known (e ∷ es) = ap (λ b. known (string_bytes e.0) && b) (known_keys known es)
