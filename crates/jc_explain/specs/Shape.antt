-- What a whole file looks like that is not what it has to be.
use Rattle.std.specs.Prelude.{◌||◌, ◌==◌, ℕ, Bool, false, if◌then◌else◌, List, [], ◌∷◌, Option, Some, None, is_some, codes}
use Rattle.jc_config.specs.Config.{document_of}
use Rattle.jc_explain.specs.Lines.{plain_line}

abbrev pub is_blank : ℕ → Bool
is_blank byte = byte == 32 || (byte == 9 || (byte == 10 || byte == 13))

abbrev pub first_mark : List ℕ → Option ℕ
first_mark [] = None
first_mark (byte ∷ bytes) = if is_blank byte then first_mark bytes else Some byte

-- the first byte that is not blank is this one
abbrev pub begins_by : ℕ → Option ℕ → Bool
begins_by mark None = false
begins_by mark (Some byte) = byte == mark

-- a configuration that begins as an object does
abbrev pub config_shape : List ℕ → List ℕ
config_shape bytes =
    if begins_by 123 (first_mark bytes) then plain_line (codes "this looks like a script; the configuration comes first, then the script") else []

-- a script that is a configuration, or that begins as a list does
abbrev pub script_shape : List ℕ → List ℕ
script_shape bytes =
    if is_some (document_of bytes) then plain_line (codes "this is a configuration; it comes first, then the script") else
    (if begins_by 91 (first_mark bytes) then plain_line (codes "a script is an object a line, with no list around the lines") else [])
