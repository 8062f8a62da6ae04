-- The known word nearest to one that is not known.
use Rattle.std.specs.Prelude.{ℕ, ◌||◌, nat_eq, nat_lt, nat_le, if◌then◌else◌, List, [], ◌∷◌, length, Option, Some, None, is_some}
use Rattle.std.specs.Str.{chars}
use Rattle.strsim.specs.Edits.{levenshtein_row}

-- the least number of characters that are put in, taken out or exchanged to make one word of the other
abbrev pub distance : List ℕ → List ℕ → ℕ
distance word known = levenshtein_row nat_eq (chars word) (chars known) (length (chars known))

-- the first word within so many edits
abbrev pub close : ℕ → List ℕ → List (List ℕ) → Option (List ℕ)
close edits word [] = None
close edits word (first ∷ known) = if nat_le (distance word first) edits then Some first else close edits word known

-- A word that is one edit away comes before those that are two edits away. Words of one byte and of more than 63 have no
-- nearest word, and those of fewer than four none at two edits.
abbrev pub nearest : List ℕ → List (List ℕ) → Option (List ℕ)
nearest word known =
    if nat_lt (length word) 2 || nat_lt 63 (length word) then None else
    (if is_some (close 1 word known) || nat_lt (length word) 4 then close 1 word known else close 2 word known)

-- the word nearest to a text, if there is one
abbrev pub near_text : List (List ℕ) → Option (List ℕ) → Option (List ℕ)
near_text words None = None
near_text words (Some text) = nearest text words
