-- Where the rows' keys have their places.
use Rattle.std.specs.Prelude.{ℕ, Bool, false, nat_le, ◌&&◌, if◌then◌else◌, List, [], ◌∷◌}
use Rattle.jc_place.specs.declared.place.Place.{Place}

-- whether a key begins with a letter from A to Z
abbrev pub is_capital : List ℕ → Bool
is_capital [] = false
is_capital (first ∷ rest) = nat_le 65 first && nat_le first 90

abbrev pub place_by_case : List ℕ → Place
place_by_case key = if is_capital key then record { first = 5; tag = 2 } else record { first = 0; tag = 1 }
