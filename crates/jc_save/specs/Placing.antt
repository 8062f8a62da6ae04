-- Bytes that are written into a lent place.
use Rattle.std.specs.Prelude.{ℕ, ◌+◌, List, ◌++◌, length, take, drop}
use Rattle.jc_model.specs.State.{Item}
use Rattle.jc_save.specs.declared.cache.Mark.{Mark}

-- out, where these bytes were written from a place on, as many as there was room for
unfoldable pub put_at : ℕ → List ℕ → List ℕ → List ℕ
put_at at bytes out = take (length out) (take at out ++ bytes) ++ drop (at + length bytes) out

-- the most bytes of a piece
abbrev pub piece_bytes : ℕ
piece_bytes = 96

-- more than the most bytes of a row
abbrev pub row_bytes : ℕ
row_bytes = 65700

abbrev pub row_with : List ℕ → List ℕ → Mark → Item
row_with key value mark = record { key = key; value = value; expiry = mark.expiry; used = mark.used }
