-- What strictness refuses in a line: a member that its op does not need, or that stands twice.
use Rattle.std.specs.Prelude.{ℕ, List, [], ◌++◌, Option, Some, None, codes}
use Rattle.serde_json.specs.Data.{Data}
use Rattle.jc_script.specs.Member.{json_of}
use Rattle.jc_script.specs.Twice.{member_twice}
use Rattle.jc_explain.specs.Lines.{text_shown}
use Rattle.jc_explain.specs.Other.{other_in}
use Rattle.jc_explain.specs.Script.{other_line_by, piece_at}

abbrev pub twice_member_line : Option (List ℕ) → List ℕ
twice_member_line None = []
twice_member_line (Some name) = codes "  the member " ++ (text_shown name ++ codes " is there twice\n")

-- the first member that the op does not have, else the first that stands twice
abbrev pub stray_line_by : Option (List ℕ) → Option (List ℕ) → List ℕ
stray_line_by None twice = twice_member_line twice
stray_line_by (Some word) twice = other_line_by (Some word)

abbrev pub stray_data_line : List ℕ → Option Data → List ℕ
stray_data_line piece None = []
stray_data_line piece (Some d) = stray_line_by (other_in d) (member_twice piece)

abbrev pub stray_piece_line : List ℕ → List ℕ
stray_piece_line piece = stray_data_line piece (json_of piece)

abbrev pub stray_line_in : Option (List ℕ) → List ℕ
stray_line_in None = []
stray_line_in (Some piece) = stray_piece_line piece

-- of the line with this number, counted from 1
abbrev pub stray_line : ℕ → List ℕ → List ℕ
stray_line n bytes = stray_line_in (piece_at n bytes)
