-- What a member is, shown in a line.
use Rattle.std.specs.Prelude.{ℕ, ℤ, nat_lt, List, length, Option, Some, None, option_and_then, is_some, if◌then◌else◌, codes, decimal}
use Rattle.std.specs.Fmt.{signed_decimal}
use Rattle.toml.specs.Data as toml
use Rattle.serde_json.specs.Data as json
use Rattle.serde_json.specs.Find as find
use Rattle.jc_explain.specs.Lines.{text_shown}

-- a text, else a number, else the kind
abbrev pub text_or_number_shown : {N : Type 0} → (N → List ℕ) → List ℕ → Option (List ℕ) → Option N → List ℕ
text_or_number_shown digits kind (Some text) number = text_shown text
text_or_number_shown digits kind None (Some number) = digits number
text_or_number_shown digits kind None None = kind

abbrev pub toml_kind : toml.Data → List ℕ
toml_kind d =
    if is_some (toml.as_bool d) then codes "true or false" else
    (if is_some (toml.as_float d) then codes "a number with a fraction" else
    (if is_some (toml.as_array d) then codes "a list" else
    (if is_some (toml.as_table d) then codes "a table" else codes "a date or a time")))

abbrev pub toml_shown : toml.Data → List ℕ
toml_shown d = text_or_number_shown signed_decimal (toml_kind d) (toml.as_str d) (toml.as_integer d)

-- a whole number below 0, else the kind
abbrev pub negative_shown : List ℕ → Option ℤ → List ℕ
negative_shown kind None = kind
negative_shown kind (Some number) = signed_decimal number

abbrev pub json_kind : json.Data → List ℕ
json_kind d =
    if is_some (find.as_bool d) then codes "true or false" else
    (if is_some (find.as_number d) then codes "a number with a fraction" else
    (if is_some (find.as_array d) then codes "a list" else
    (if is_some (find.as_object d) then codes "an object" else codes "null")))

abbrev pub json_shown : json.Data → List ℕ
json_shown d = text_or_number_shown decimal (negative_shown (json_kind d) (option_and_then find.as_i64 (find.as_number d))) (find.as_str d) (option_and_then find.as_u64 (find.as_number d))

-- a number as it is written, where it is short
abbrev pub written_shown : Option (List ℕ) → json.Data → List ℕ
written_shown None d = json_shown d
written_shown (Some text) d = if nat_lt 63 (length text) then json_shown d else text
