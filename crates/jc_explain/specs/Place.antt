-- The line and the column after the bytes of a text.
use Rattle.std.specs.Prelude.{ℕ, ◌+◌, ◌==◌, if◌then◌else◌, List, [], ◌∷◌}

-- from this line and this column on
abbrev pub line_from : ℕ → List ℕ → ℕ
line_from line [] = line
line_from line (b ∷ bs) = line_from (if b == 10 then line + 1 else line) bs

abbrev pub column_from : ℕ → List ℕ → ℕ
column_from column [] = column
column_from column (b ∷ bs) = column_from (if b == 10 then 1 else column + 1) bs

-- a line more after each line feed
abbrev pub line_number : List ℕ → ℕ
line_number before = line_from 1 before

-- a column more after each byte, from the last line feed on
abbrev pub column_of : List ℕ → ℕ
column_of before = column_from 1 before
