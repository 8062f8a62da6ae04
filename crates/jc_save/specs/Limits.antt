-- The limits of saved caches, as contracts cite them.
use Rattle.std.specs.Prelude.{ℕ, List, [], ◌∷◌}

-- "JCS"
abbrev pub magic : List ℕ
magic = 74 ∷ 67 ∷ 83 ∷ []

-- "1"
abbrev pub version : ℕ
version = 49

-- the most bytes of a saved cache
abbrev pub saved_bytes : ℕ
saved_bytes = 268435456
