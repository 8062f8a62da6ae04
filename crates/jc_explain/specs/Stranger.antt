-- Members that are not known.
use Rattle.std.specs.Prelude.{ℕ, Bool, if◌then◌else◌, List, [], ◌∷◌, Option, Some, None, option_and_then}
use Rattle.std.specs.List.{list_any}
use Rattle.std.specs.Str.{bytes_eq}
use Rattle.toml.specs.Data.{Data, Members, no_members, member, as_table}

abbrev pub is_known : List (List ℕ) → List ℕ → Bool
is_known known word = list_any (λ name. bytes_eq name word) known

-- the first word that is not known
abbrev pub stranger_among : List (List ℕ) → List (List ℕ) → Option (List ℕ)
stranger_among known [] = None
stranger_among known (word ∷ words) = if is_known known word then stranger_among known words else Some word

abbrev pub table_member_names : Members → List (List ℕ)
table_member_names no_members = []
table_member_names (member k d ms) = k ∷ table_member_names ms

-- the first member of a table, in the order of their names, that is not known
abbrev pub stranger_in : List (List ℕ) → Members → Option (List ℕ)
stranger_in known ms = stranger_among known (table_member_names ms)

abbrev pub stranger_of : List (List ℕ) → Data → Option (List ℕ)
stranger_of known d = option_and_then (stranger_in known) (as_table d)
