-- The names of a table's members.
use Rattle.std.proofs.Common.{◌≡◌, List, [], ◌∷◌, refl, ap, map, String, Global, string_bytes}
use Rattle.toml.specs.View.{members_view}
use Rattle.toml.specs.declared.value.Value.{Value}
use Rattle.jc_explain.specs.Stranger.{table_member_names}

pub names_in_order : (es : List (String Global × Value)) → map string_bytes (map (λ e. e.0) es) ≡ table_member_names (members_view es)
names_in_order [] = refl
names_in_order (e ∷ es) = ap (λ names. string_bytes e.0 ∷ names) (names_in_order es)
