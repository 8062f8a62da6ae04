-- Explanations of a trace's faults.
use Rattle.std.specs.Prelude.{ℕ, List, [], ◌++◌, if◌then◌else◌, Option, Some, None, codes}
use Rattle.std.specs.Str.{is_utf8}
use Rattle.jc_explain.specs.Lines.{text_shown}
use Rattle.jc_explain.specs.Script.{piece_at}

abbrev pub text_or_not : List ℕ → List ℕ
text_or_not piece = if is_utf8 piece then text_shown piece else codes "not UTF-8"

abbrev pub key_line_by : Option (List ℕ) → List ℕ
key_line_by None = []
key_line_by (Some piece) = codes "  the line is " ++ (text_or_not piece ++ codes "; it has to be a key, 1 to 63 bytes of UTF-8\n")

-- the line of a trace with this number, as it is and as it has to be
abbrev pub key_line : ℕ → List ℕ → List ℕ
key_line line bytes = key_line_by (piece_at line bytes)
