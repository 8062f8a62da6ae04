-- What a call was made with, as members of its object.
use Rattle.std.specs.Prelude.{ℕ, List, [], ◌++◌, Bool, codes}
use Rattle.jc_model.specs.declared.call.Call.{Call}
use Rattle.jc_model.specs.declared.call.Call.TheVariants as calls
use Rattle.jc_report.specs.Values.{next_member, number_member, bytes_json, bytes_member, list_json, pair_json, truth_json}

abbrev pub key_member : List ℕ → List ℕ
key_member key = bytes_member (codes "key") key

abbrev pub keys_member : List (List ℕ) → List ℕ
keys_member keys = next_member (codes "keys") ++ list_json bytes_json keys

abbrev pub entries_member : List (List ℕ × List ℕ) → List ℕ
entries_member pairs = next_member (codes "entries") ++ list_json pair_json pairs

abbrev pub key_value_members : List ℕ → List ℕ → List ℕ
key_value_members key value = key_member key ++ bytes_member (codes "value") value

abbrev pub key_expect_members : List ℕ → List ℕ → List ℕ
key_expect_members key expected = key_member key ++ bytes_member (codes "expect") expected

abbrev pub processor_members : ℕ → List ℕ → List ℕ
processor_members processor argument = number_member (codes "processor") processor ++ bytes_member (codes "argument") argument

abbrev pub replace_member : Bool → List ℕ
replace_member replace = next_member (codes "replace") ++ truth_json replace

-- of a call on one key; others have none of these
abbrev pub of_one_json : Call → List ℕ
of_one_json (calls.Get k) = key_member k
of_one_json (calls.Contains k) = key_member k
of_one_json (calls.Put k v) = key_value_members k v
of_one_json (calls.GetAndPut k v) = key_value_members k v
of_one_json (calls.PutIfAbsent k v) = key_value_members k v
of_one_json (calls.Replace k v) = key_value_members k v
of_one_json (calls.ReplaceIf k expected v) = key_expect_members k expected ++ bytes_member (codes "value") v
of_one_json (calls.GetAndReplace k v) = key_value_members k v
of_one_json (calls.Remove k) = key_member k
of_one_json (calls.RemoveIf k expected) = key_expect_members k expected
of_one_json (calls.GetAndRemove k) = key_member k
of_one_json (calls.Invoke k processor argument) = key_member k ++ processor_members processor argument
of_one_json _ = []

-- of a call on many keys
abbrev pub of_many_json : Call → List ℕ
of_many_json (calls.GetAll ks) = keys_member ks
of_many_json (calls.InvokeAll ks processor argument) = keys_member ks ++ processor_members processor argument
of_many_json (calls.PutAll pairs) = entries_member pairs
of_many_json (calls.RemoveKeys ks) = keys_member ks
of_many_json (calls.LoadAll ks replace) = keys_member ks ++ replace_member replace
of_many_json _ = []

-- the members of either
unfoldable pub arguments_json : Call → List ℕ
arguments_json call = of_one_json call ++ of_many_json call
