-- Members, words, keys, values and lists as JSON.
use Rattle.std.specs.Prelude.{ℕ, List, [], ◌∷◌, ◌++◌, Bool, true, false, Result, Ok, Err, if◌then◌else◌, codes, decimal}
use Rattle.std.specs.Str.{is_utf8}
use Rattle.hex.specs.Hex.{encode_lower}
use Rattle.json.specs.Print.{quoted}
use Rattle.jc_model.specs.declared.call.ProcessorFault.{ProcessorFault}

-- the beginning of an object, up to the value of its first member
unfoldable pub first_member : List ℕ → List ℕ
first_member name = codes "{\"" ++ name ++ codes "\":"

-- one more member, up to its value
unfoldable pub next_member : List ℕ → List ℕ
next_member name = codes ",\"" ++ name ++ codes "\":"

-- a word of letters and spaces as a string
unfoldable pub word_json : List ℕ → List ℕ
word_json word = codes "\"" ++ word ++ codes "\""

abbrev pub number_member : List ℕ → ℕ → List ℕ
number_member name n = next_member name ++ decimal n

-- a string, and where the bytes are no text an object with their hexadecimal digits
unfoldable pub bytes_json : List ℕ → List ℕ
bytes_json bytes = if is_utf8 bytes then quoted bytes else codes "{\"hex\":\"" ++ encode_lower bytes ++ codes "\"}"

abbrev pub bytes_member : List ℕ → List ℕ → List ℕ
bytes_member name bytes = next_member name ++ bytes_json bytes

abbrev pub comma_if : Bool → List ℕ
comma_if true = codes ","
comma_if false = []

-- items behind others, or behind none
abbrev pub items_json : {A : Type 0} → (A → List ℕ) → Bool → List A → List ℕ
items_json json later [] = []
items_json json later (x ∷ xs) = comma_if later ++ json x ++ items_json json true xs

-- a list of items, each as it is written
unfoldable pub list_json : {A : Type 0} → (A → List ℕ) → List A → List ℕ
list_json json xs = codes "[" ++ items_json json false xs ++ codes "]"

-- a key with its value
abbrev pub pair_json : List ℕ × List ℕ → List ℕ
pair_json p = first_member (codes "key") ++ bytes_json p.0 ++ bytes_member (codes "value") p.1 ++ codes "}"

-- what a processor answered, or that it failed
abbrev pub answered_member : Result (List ℕ) ProcessorFault → List ℕ
answered_member (Ok bytes) = bytes_member (codes "value") bytes
answered_member (Err fault) = next_member (codes "fault") ++ word_json (codes "processor")

abbrev pub result_json : List ℕ × Result (List ℕ) ProcessorFault → List ℕ
result_json r = first_member (codes "key") ++ bytes_json r.0 ++ answered_member r.1 ++ codes "}"

abbrev pub truth_json : Bool → List ℕ
truth_json true = codes "true"
truth_json false = codes "false"
