-- Which members an op needs, or may have.
use Rattle.std.specs.Prelude.{ℕ, ◌||◌, Bool, true, false, List, if◌then◌else◌, codes}
use Rattle.std.specs.Str.{bytes_eq}

abbrev pub is_on_key : List ℕ → Bool
is_on_key op =
    bytes_eq op (codes "get") || bytes_eq op (codes "contains") || bytes_eq op (codes "put") || bytes_eq op (codes "get_and_put")
    || bytes_eq op (codes "put_if_absent") || bytes_eq op (codes "replace") || bytes_eq op (codes "replace_if") || bytes_eq op (codes "get_and_replace")
    || bytes_eq op (codes "remove") || bytes_eq op (codes "remove_if") || bytes_eq op (codes "get_and_remove") || bytes_eq op (codes "invoke")

abbrev pub stores_value : List ℕ → Bool
stores_value op =
    bytes_eq op (codes "put") || bytes_eq op (codes "get_and_put") || bytes_eq op (codes "put_if_absent") || bytes_eq op (codes "replace")
    || bytes_eq op (codes "replace_if") || bytes_eq op (codes "get_and_replace")

abbrev pub expects : List ℕ → Bool
expects op = bytes_eq op (codes "replace_if") || bytes_eq op (codes "remove_if")

abbrev pub names_processor : List ℕ → Bool
names_processor op = bytes_eq op (codes "invoke") || bytes_eq op (codes "invoke_all")

abbrev pub is_on_keys : List ℕ → Bool
is_on_keys op = bytes_eq op (codes "get_all") || bytes_eq op (codes "remove_keys") || bytes_eq op (codes "invoke_all") || bytes_eq op (codes "load_all")

abbrev pub is_common : List ℕ → Bool
is_common member = bytes_eq member (codes "s") || bytes_eq member (codes "c") || bytes_eq member (codes "at") || bytes_eq member (codes "op")

abbrev pub is_of_creating : List ℕ → Bool
is_of_creating member = bytes_eq member (codes "capacity") || bytes_eq member (codes "expiry") || bytes_eq member (codes "duration")

-- the members of one op each, and of a few
abbrev pub has_own : List ℕ → List ℕ → Bool
has_own op member =
    if bytes_eq member (codes "k") then is_on_key op else
    (if bytes_eq member (codes "ks") then is_on_keys op else
    (if bytes_eq member (codes "kvs") then bytes_eq op (codes "put_all") else
    (if bytes_eq member (codes "expect") then expects op else
    (if bytes_eq member (codes "v") then stores_value op else
    (if bytes_eq member (codes "replace") then bytes_eq op (codes "load_all") else
    (if bytes_eq member (codes "p") then names_processor op else
    (if bytes_eq member (codes "arg") then names_processor op else false)))))))

unfoldable pub has_member : List ℕ → List ℕ → Bool
has_member op member =
    if is_common member then true else (if is_of_creating member then bytes_eq op (codes "create") else has_own op member)
