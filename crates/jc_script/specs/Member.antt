-- The members of a line: what each is, or the line's fault.
use Rattle.std.specs.Prelude.{ℕ, Bool, List, [], ◌∷◌, length, map, Option, Some, None, option_and_then, option_map, is_some, Result, Ok, Err, nat_lt, nat_le, ◌&&◌, if◌then◌else◌, codes}
use Rattle.std.specs.Option.{ok_or}
use Rattle.std.specs.Str.{is_utf8}
use Rattle.serde_json.specs.Data.{Data, Items, no_items, item}
use Rattle.serde_json.specs.Read.{read}
use Rattle.serde_json.specs.Find.{get, as_array, as_object, as_number, as_u64, as_str}
use Rattle.jc_model.specs.Limits.{key_bytes, value_bytes, most_keys}
use Rattle.jc_model.specs.Lists.{distinct}
use Rattle.jc_model.specs.Runs.{Lives}
use Rattle.jc_config.specs.FirstFault as first
use Rattle.jc_config.specs.FirstFault.{◌>>=◌}
use Rattle.jc_script.specs.declared.fault.Member.{Member}
use Rattle.jc_script.specs.declared.fault.Member.TheVariants as members
use Rattle.jc_script.specs.declared.fault.ScriptFault.{ScriptFault}
use Rattle.jc_script.specs.declared.fault.ScriptFault.TheVariants.{NotJson, NotObject, Bad}
use Rattle.jc_script.specs.Live.{id_of_live}

-- a text as `Value::from_slice` reads it: bytes that are not UTF-8 are no JSON
unfoldable pub json_of : List ℕ → Option Data
json_of bytes = if is_utf8 bytes then read bytes else None

unfoldable pub object_of : ℕ → List ℕ → Result Data ScriptFault
object_of n bytes = do
  d ← ok_or (json_of bytes) (NotJson n)
  if is_some (as_object d) then Ok d else Err (NotObject n)

-- Members.

abbrev pub member_name : Member → List ℕ
member_name members.Session = codes "s"
member_name members.Cache = codes "c"
member_name members.At = codes "at"
member_name members.Op = codes "op"
member_name members.Capacity = codes "capacity"
member_name members.Expiry = codes "expiry"
member_name members.Duration = codes "duration"
member_name members.Key = codes "k"
member_name members.Keys = codes "ks"
member_name members.Pairs = codes "kvs"
member_name members.Expect = codes "expect"
member_name members.Value = codes "v"
member_name members.Replace = codes "replace"
member_name members.Processor = codes "p"
member_name members.Argument = codes "arg"

-- a member that is needed, as f takes it
abbrev pub needed_line_member : {A : Type 0} → (Data → Option A) → ℕ → Member → Data → Result A ScriptFault
needed_line_member f n m d = first.needed_member f (Bad n m) (get (member_name m) d)

abbrev pub whole_u64 : Data → Option ℕ
whole_u64 d = option_and_then as_u64 (as_number d)

abbrev pub whole_u64_below : ℕ → Data → Option ℕ
whole_u64_below limit d = option_and_then (λ n. if nat_lt n limit then Some n else None) (whole_u64 d)

abbrev pub text_as_key : List ℕ → Option (List ℕ)
text_as_key text = if nat_lt 0 (length text) && nat_le (length text) key_bytes then Some text else None

abbrev pub key : Data → Option (List ℕ)
key d = option_and_then text_as_key (as_str d)

-- the id of the live cache of that name
abbrev pub cache : Lives → Data → Option ℕ
cache lives d = option_and_then (id_of_live lives) (key d)

abbrev pub text_as_value : List ℕ → Option (List ℕ)
text_as_value text = if nat_le (length text) value_bytes then Some text else None

abbrev pub value : Data → Option (List ℕ)
value d = option_and_then text_as_value (as_str d)

-- a key, and its value
abbrev pub pair_in : Items → Option (List ℕ × List ℕ)
pair_in (item k (item v no_items)) = option_and_then (λ a. option_map (λ b. (a, b)) (value v)) (key k)
pair_in _ = None

abbrev pub pair : Data → Option (List ℕ × List ℕ)
pair d = option_and_then pair_in (as_array d)

-- Lists.

-- every item as f takes it, if f takes them all
abbrev pub each_item : {A : Type 0} → (Data → Option A) → Items → Option (List A)
each_item f no_items = Some []
each_item f (item d ds) = option_and_then (λ x. option_map (λ xs. x ∷ xs) (each_item f ds)) (f d)

-- the keys of one call: few enough, and all different
abbrev pub are_keys : List (List ℕ) → Bool
are_keys ks = nat_le (length ks) most_keys && distinct ks

abbrev pub distinct_keys : List (List ℕ) → Option (List (List ℕ))
distinct_keys ks = if are_keys ks then Some ks else None

abbrev pub keys : Data → Option (List (List ℕ))
keys d = option_and_then (λ ds. option_and_then distinct_keys (each_item key ds)) (as_array d)

abbrev pub distinct_pairs : List (List ℕ × List ℕ) → Option (List (List ℕ × List ℕ))
distinct_pairs ps = if are_keys (map (λ p. p.0) ps) then Some ps else None

abbrev pub pairs : Data → Option (List (List ℕ × List ℕ))
pairs d = option_and_then (λ ds. option_and_then distinct_pairs (each_item pair ds)) (as_array d)
