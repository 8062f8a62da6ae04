-- A member that stands twice in a line, and a number as it is written there.
use Rattle.std.specs.Prelude.{ℕ, Bool, false, ◌||◌, if◌then◌else◌, List, Option, Some, None, option_and_then}
use Rattle.std.specs.Str.{bytes_eq}
use Rattle.json.specs.Json as json
use Rattle.json.specs.Find.{get}
use Rattle.jc_script.specs.Tree.{tree_of}

abbrev pub has_name : List ℕ → json.Members → Bool
has_name name json.no_members = false
has_name name (json.member k j ms) = bytes_eq k name || has_name name ms

-- the first name that a member behind it has too
abbrev pub name_twice : json.Members → Option (List ℕ)
name_twice json.no_members = None
name_twice (json.member k j ms) = if has_name k ms then Some k else name_twice ms

abbrev pub twice_in : json.Json → Option (List ℕ)
twice_in (json.object ms) = name_twice ms
twice_in _ = None

-- the first member that stands again in a line
unfoldable pub member_twice : List ℕ → Option (List ℕ)
member_twice bytes = option_and_then twice_in (tree_of bytes)

abbrev pub number_in : Option json.Json → Option (List ℕ)
number_in (Some (json.number text)) = Some text
number_in _ = None

-- the number that a member of a line is
unfoldable pub number_written : List ℕ → List ℕ → Option (List ℕ)
number_written name bytes = number_in (option_and_then (get name) (tree_of bytes))
