-- Places that are read from a list.
use Rattle.std.specs.Prelude.{ℕ, ◌%◌, List, slice_index_or, max}
use Rattle.jc_place.specs.declared.place.Place.{Place}

-- at the number of the key's first byte; a tag is at least one
abbrev pub listed_place : List ℕ → List ℕ → List ℕ → Place
listed_place firsts tags key =
    let at : ℕ = slice_index_or key 0 0 % 128 in record { first = slice_index_or firsts at 0; tag = max (slice_index_or tags at 0) 1 }
