-- The ops of a script, each in two tables: the name of a call, and the call of a name.
use Rattle.std.specs.Prelude.{ℕ, Bool, List, [], ◌∷◌, ◌++◌, Result, Ok, Err, if◌then◌else◌, codes}
use Rattle.std.specs.Str.{bytes_eq}
use Rattle.serde_json.specs.Data.{Data}
use Rattle.serde_json.specs.Find.{as_bool}
use Rattle.jc_model.specs.declared.call.Call.{Call}
use Rattle.jc_model.specs.declared.call.Call.TheVariants as calls
use Rattle.jc_config.specs.FirstFault.{◌>>=◌}
use Rattle.jc_script.specs.declared.fault.Member.TheVariants as members
use Rattle.jc_script.specs.declared.fault.ScriptFault.{ScriptFault}
use Rattle.jc_script.specs.declared.fault.ScriptFault.TheVariants.{Bad}
use Rattle.jc_script.specs.Member.{needed_line_member, whole_u64_below, key, keys, pairs, value}

-- a call's name in a script and in a report
abbrev pub call_name : Call → List ℕ
call_name (calls.Get k) = codes "get"
call_name (calls.GetAll ks) = codes "get_all"
call_name (calls.Contains k) = codes "contains"
call_name (calls.Put k v) = codes "put"
call_name (calls.GetAndPut k v) = codes "get_and_put"
call_name (calls.PutIfAbsent k v) = codes "put_if_absent"
call_name (calls.Replace k v) = codes "replace"
call_name (calls.ReplaceIf k expected v) = codes "replace_if"
call_name (calls.GetAndReplace k v) = codes "get_and_replace"
call_name (calls.Remove k) = codes "remove"
call_name (calls.RemoveIf k expected) = codes "remove_if"
call_name (calls.GetAndRemove k) = codes "get_and_remove"
call_name (calls.Invoke k processor argument) = codes "invoke"
call_name (calls.InvokeAll ks processor argument) = codes "invoke_all"
call_name (calls.PutAll ps) = codes "put_all"
call_name (calls.RemoveKeys ks) = codes "remove_keys"
call_name calls.RemoveAll = codes "remove_all"
call_name calls.Clear = codes "clear"
call_name (calls.LoadAll ks replace) = codes "load_all"
call_name calls.Entries = codes "entries"
call_name calls.Stats = codes "stats"
call_name calls.ClearStats = codes "clear_stats"

-- What a call is made of: the number of its cache's processors, the line's number and its object.

abbrev pub Reading : Type 0
Reading = ℕ → ℕ → Data → Result Call ScriptFault

abbrev pub of_nothing : Call → Reading
of_nothing call processors n d = Ok call

abbrev pub of_key : (List ℕ → Call) → Reading
of_key call processors n d = do
  k ← needed_line_member key n members.Key d
  Ok (call k)

abbrev pub of_key_value : (List ℕ → List ℕ → Call) → Reading
of_key_value call processors n d = do
  k ← needed_line_member key n members.Key d
  v ← needed_line_member value n members.Value d
  Ok (call k v)

abbrev pub of_key_expected : (List ℕ → List ℕ → Call) → Reading
of_key_expected call processors n d = do
  k ← needed_line_member key n members.Key d
  expected ← needed_line_member value n members.Expect d
  Ok (call k expected)

abbrev pub of_key_expected_value : (List ℕ → List ℕ → List ℕ → Call) → Reading
of_key_expected_value call processors n d = do
  k ← needed_line_member key n members.Key d
  expected ← needed_line_member value n members.Expect d
  v ← needed_line_member value n members.Value d
  Ok (call k expected v)

abbrev pub of_key_processor : (List ℕ → ℕ → List ℕ → Call) → Reading
of_key_processor call processors n d = do
  k ← needed_line_member key n members.Key d
  p ← needed_line_member (whole_u64_below processors) n members.Processor d
  a ← needed_line_member value n members.Argument d
  Ok (call k p a)

abbrev pub of_keys : (List (List ℕ) → Call) → Reading
of_keys call processors n d = do
  ks ← needed_line_member keys n members.Keys d
  Ok (call ks)

abbrev pub of_keys_replace : (List (List ℕ) → Bool → Call) → Reading
of_keys_replace call processors n d = do
  ks ← needed_line_member keys n members.Keys d
  replace ← needed_line_member as_bool n members.Replace d
  Ok (call ks replace)

abbrev pub of_keys_processor : (List (List ℕ) → ℕ → List ℕ → Call) → Reading
of_keys_processor call processors n d = do
  ks ← needed_line_member keys n members.Keys d
  p ← needed_line_member (whole_u64_below processors) n members.Processor d
  a ← needed_line_member value n members.Argument d
  Ok (call ks p a)

abbrev pub of_pairs : (List (List ℕ × List ℕ) → Call) → Reading
of_pairs call processors n d = do
  ps ← needed_line_member pairs n members.Pairs d
  Ok (call ps)

-- The call of each name.

abbrev pub on_one : List (List ℕ × Reading)
on_one =
    (codes "get", of_key calls.Get) ∷
    (codes "contains", of_key calls.Contains) ∷
    (codes "put", of_key_value calls.Put) ∷
    (codes "get_and_put", of_key_value calls.GetAndPut) ∷
    (codes "put_if_absent", of_key_value calls.PutIfAbsent) ∷
    (codes "replace", of_key_value calls.Replace) ∷
    (codes "replace_if", of_key_expected_value calls.ReplaceIf) ∷
    (codes "get_and_replace", of_key_value calls.GetAndReplace) ∷
    (codes "remove", of_key calls.Remove) ∷
    (codes "remove_if", of_key_expected calls.RemoveIf) ∷
    (codes "get_and_remove", of_key calls.GetAndRemove) ∷
    (codes "invoke", of_key_processor calls.Invoke) ∷ []

abbrev pub on_many : List (List ℕ × Reading)
on_many =
    (codes "get_all", of_keys calls.GetAll) ∷
    (codes "invoke_all", of_keys_processor calls.InvokeAll) ∷
    (codes "put_all", of_pairs calls.PutAll) ∷
    (codes "remove_keys", of_keys calls.RemoveKeys) ∷
    (codes "load_all", of_keys_replace calls.LoadAll) ∷
    (codes "remove_all", of_nothing calls.RemoveAll) ∷
    (codes "clear", of_nothing calls.Clear) ∷
    (codes "entries", of_nothing calls.Entries) ∷
    (codes "stats", of_nothing calls.Stats) ∷
    (codes "clear_stats", of_nothing calls.ClearStats) ∷ []

-- by the first of these with the name; a name that none has is the fault of the line's op
unfoldable pub chosen : List (List ℕ × Reading) → List ℕ → Reading
chosen [] name processors n d = Err (Bad n members.Op)
chosen (op ∷ ops) name processors n d = if bytes_eq name op.0 then op.1 processors n d else chosen ops name processors n d

unfoldable pub call_of : List ℕ → Reading
call_of name processors n d = chosen (on_one ++ on_many) name processors n d
