-- The names of the members of a line.
use Rattle.std.proofs.Common.{◌≡◌, List, [], ◌∷◌, refl, ap, map, String, Global, string_bytes}
use Rattle.serde_json.specs.View.{members_view}
use Rattle.serde_json.specs.declared.value.Value.{Value}
use Rattle.jc_explain.specs.Other.{line_member_names}

pub names_in_order : (es : List (String Global × Value)) → map string_bytes (map (λ e. e.0) es) ≡ line_member_names (members_view es)
names_in_order [] = refl
names_in_order (e ∷ es) = ap (λ names. string_bytes e.0 ∷ names) (names_in_order es)
