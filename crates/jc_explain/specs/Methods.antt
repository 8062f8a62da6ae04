-- The op that a method of JCache's is.
use Rattle.std.specs.Prelude.{ℕ, List, Option, Some, None, if◌then◌else◌, codes}
use Rattle.std.specs.Str.{bytes_eq}

abbrev pub op_of_method : List ℕ → Option (List ℕ)
op_of_method name =
    if bytes_eq name (codes "getAll") then Some (codes "get_all") else
    (if bytes_eq name (codes "containsKey") then Some (codes "contains") else
    (if bytes_eq name (codes "putIfAbsent") then Some (codes "put_if_absent") else
    (if bytes_eq name (codes "getAndPut") then Some (codes "get_and_put") else
    (if bytes_eq name (codes "getAndReplace") then Some (codes "get_and_replace") else
    (if bytes_eq name (codes "getAndRemove") then Some (codes "get_and_remove") else
    (if bytes_eq name (codes "putAll") then Some (codes "put_all") else
    (if bytes_eq name (codes "removeAll") then Some (codes "remove_all") else
    (if bytes_eq name (codes "loadAll") then Some (codes "load_all") else
    (if bytes_eq name (codes "invokeAll") then Some (codes "invoke_all") else
    (if bytes_eq name (codes "iterator") then Some (codes "entries") else
    (if bytes_eq name (codes "createCache") then Some (codes "create") else
    (if bytes_eq name (codes "destroyCache") then Some (codes "destroy") else
    None))))))))))))
