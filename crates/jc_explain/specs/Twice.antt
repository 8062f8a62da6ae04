-- A key that a list has twice.
use Rattle.std.specs.Prelude.{ℕ, ◌+◌, ◌||◌, Bool, true, false, nat_lt, if◌then◌else◌, List, [], ◌++◌, Option, Some, None, option_and_then, codes}
use Rattle.std.specs.Str.{bytes_eq}
use Rattle.serde_json.specs.Data.{Data, Items, no_items, item}
use Rattle.serde_json.specs.Find.{as_array, as_str, at}
use Rattle.jc_explain.specs.Lines.{text_shown}

-- the key that an item is, or that a pair begins with
abbrev pub key_in : Bool → Data → Option (List ℕ)
key_in false d = as_str d
key_in true d = option_and_then as_str (at 0 d)

abbrev pub is_key : List ℕ → Option (List ℕ) → Bool
is_key key None = false
is_key key (Some text) = bytes_eq text key

abbrev pub has_key : Bool → List ℕ → Items → Bool
has_key of_pairs key no_items = false
has_key of_pairs key (item d ds) = is_key key (key_in of_pairs d) || has_key of_pairs key ds

abbrev pub first_again : Option (List ℕ) → Bool → Items → Option (List ℕ) → Option (List ℕ)
first_again None of_pairs behind later = later
first_again (Some key) of_pairs behind later = if has_key of_pairs key behind then Some key else later

-- the first key that stands in the list again
abbrev pub twice_among : Bool → Items → Option (List ℕ)
twice_among of_pairs no_items = None
twice_among of_pairs (item d ds) = first_again (key_in of_pairs d) of_pairs ds (twice_among of_pairs ds)

abbrev pub count_of : Items → ℕ
count_of no_items = 0
count_of (item d ds) = count_of ds + 1

-- longer lists are not looked through
abbrev pub twice_in : Bool → Items → Option (List ℕ)
twice_in of_pairs ds = if nat_lt 64 (count_of ds) then None else twice_among of_pairs ds

abbrev pub twice_line_by : Option (List ℕ) → List ℕ
twice_line_by None = []
twice_line_by (Some key) = codes "  the key " ++ (text_shown key ++ codes " is there twice\n")

abbrev pub twice_line : Bool → Option Data → List ℕ
twice_line of_pairs d = twice_line_by (option_and_then (twice_in of_pairs) (option_and_then as_array d))
