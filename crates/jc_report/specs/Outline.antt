-- The lines of a script, each with its number, and what it asks for.
use Rattle.std.specs.Prelude.{ℕ, ◌+◌, List, [], ◌∷◌, if◌then◌else◌}
use Rattle.std.specs.List.{slice_split}
use Rattle.jc_script.specs.declared.line.Line.{Line}
use Rattle.jc_script.specs.declared.line.Line.TheVariants as line
use Rattle.jc_script.specs.Script.{is_feed, is_blank}
use Rattle.jc_report.specs.declared.line_numbers.Asked.{Asked}
use Rattle.jc_report.specs.declared.line_numbers.Asked.TheVariants as asked
use Rattle.jc_report.specs.declared.line_numbers.NumberedLine.{NumberedLine}

abbrev pub asked_of_line : Line → Asked
asked_of_line (line.Call l) = asked.Call l.session l.id
asked_of_line (line.Create session c) = asked.Create
asked_of_line (line.Destroy session id) = asked.Destroy id

-- the numbers of pieces from n on; a blank one is passed over and counted
abbrev pub piece_numbers_from : ℕ → List (List ℕ) → List ℕ
piece_numbers_from n [] = []
piece_numbers_from n (piece ∷ pieces) = if is_blank piece then piece_numbers_from (n + 1) pieces else n ∷ piece_numbers_from (n + 1) pieces

-- each line with its number
abbrev pub numbered_lines : List ℕ → List Line → List NumberedLine
numbered_lines [] lines = []
numbered_lines (n ∷ ns) [] = []
numbered_lines (n ∷ ns) (l ∷ ls) = record { number = n; asked = asked_of_line l } ∷ numbered_lines ns ls

-- the bytes are cut at each line feed, and lines are counted from 1
unfoldable pub outline_of : List ℕ → List Line → List NumberedLine
outline_of bytes lines = numbered_lines (piece_numbers_from 1 (slice_split is_feed bytes)) lines
