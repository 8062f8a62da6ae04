-- What the tables of all caches have together: a name twice, and a sum of capacities.
use Rattle.std.specs.Prelude.{ℕ, ◌+◌, nat_lt, Bool, false, if◌then◌else◌, List, [], ◌++◌, Option, Some, None, option_and_then, unwrap_or, codes, decimal}
use Rattle.std.specs.Str.{bytes_eq}
use Rattle.toml.specs.Data.{Data, Items, no_items, item, Members, get, get_member, as_str, as_array}
use Rattle.jc_config.specs.Members.{number, count_of}

-- the tables of a document
abbrev pub tables_in : Members → Option Items
tables_in document = option_and_then as_array (get_member (codes "cache") document)

abbrev pub is_text : List ℕ → Option (List ℕ) → Bool
is_text text None = false
is_text text (Some other) = bytes_eq other text

abbrev pub name_of : Data → Option (List ℕ)
name_of t = option_and_then as_str (get (codes "name") t)

-- the first table with this name, where the first is number n
abbrev pub named_from : ℕ → List ℕ → Items → Option ℕ
named_from n name no_items = None
named_from n name (item d ds) = if is_text name (name_of d) then Some n else named_from (n + 1) name ds

abbrev pub first_line_by : Option ℕ → List ℕ
first_line_by None = []
first_line_by (Some n) = codes "  cache " ++ (decimal n ++ codes " is the first of that name\n")

abbrev pub first_named : Option (List ℕ) → Option Items → Option ℕ
first_named (Some name) (Some tables) = named_from 1 name tables
first_named _ _ = None

-- which table has this one's name first
abbrev pub first_line : Members → Data → List ℕ
first_line document t = first_line_by (first_named (name_of t) (tables_in document))

-- a capacity, where a table has one
abbrev pub capacity_of : Data → ℕ
capacity_of t = unwrap_or (option_and_then (number 1 65536) (get (codes "capacity") t)) 0

abbrev pub sum_of : Items → ℕ
sum_of no_items = 0
sum_of (item d ds) = capacity_of d + sum_of ds

abbrev pub sum_line : ℕ → List ℕ
sum_line sum = codes "  the capacities are " ++ (decimal sum ++ codes " together; they have to be at most 262144\n")

-- more tables than caches may be are not counted
abbrev pub sum_lines_by : Option Items → List ℕ
sum_lines_by None = []
sum_lines_by (Some tables) = if nat_lt 1024 (count_of tables) then [] else sum_line (sum_of tables)

abbrev pub sum_lines : Members → List ℕ
sum_lines document = sum_lines_by (tables_in document)
