-- Members of a line, and the lines of a script one after the other.
use Rattle.std.proofs.Common.{◌≡◌, List, [], ◌∷◌, refl, ap, map, String, Global, string_bytes}
use Rattle.std.specs.Prelude.{◌&&◌, ℕ, Bool}
use Rattle.std.specs.List.{list_all}
use Rattle.serde_json.specs.View.{members_view}
use Rattle.serde_json.specs.declared.value.Value.{Value}
use Rattle.jc_script.specs.Stray.{line_members_are}

pub known_keys : (known : List ℕ → Bool) (es : List (String Global × Value)) → list_all (λ k. known (string_bytes k)) (map (λ e. e.0) es) ≡ line_members_are known (members_view es)
known_keys known [] = refl
known_keys known (e ∷ es) = ap (λ b. known (string_bytes e.0) && b) (known_keys known es)
