-- The live caches by id and name, as bytes.
use Rattle.std.specs.Prelude.{ℕ, List, [], ◌∷◌, ◌++◌, length, Option, Some, None}
use Rattle.std.specs.Int.{to_le_bytes, w32}
use Rattle.std.specs.List.{flat_map}
use Rattle.jc_engine.specs.Caches.{Cache, id_of, names_of}

-- a cache's id, how many bytes its name has, its name
abbrev pub name_bytes : List ℕ → Option ℕ → List ℕ
name_bytes name None = []
name_bytes name (Some id) = to_le_bytes w32 id ++ (length name ∷ name)

-- of these names, each with the id of its live cache
abbrev pub names_listed : List (Option Cache) → List (List ℕ) → List ℕ
names_listed caches names = flat_map (λ name. name_bytes name (id_of name caches)) names

-- of all live caches, in order of id
abbrev pub names_told : List (Option Cache) → List ℕ
names_told caches = names_listed caches (names_of caches)
