-- Explanations of a script's faults.
use Rattle.std.specs.Prelude.{◌≡◌, true, false, ℕ, ◌+◌, ◌-◌, ◌==◌, if◌then◌else◌, nat_lt, List, [], ◌∷◌, ◌++◌, length, Option, Some, None, option_and_then, is_some, codes, decimal}
use Rattle.std.specs.List.{slice_split}
use Rattle.serde_json.specs.Data.{Data}
use Rattle.serde_json.specs.Find.{get, as_str}
use Rattle.jc_script.specs.Member.{json_of, member_name}
use Rattle.jc_script.specs.Script.{is_feed}
use Rattle.jc_script.specs.Twice.{number_written}
use Rattle.jc_script.specs.declared.fault.Member.{Member}
use Rattle.jc_script.specs.declared.fault.Member.TheVariants.{Cache, Op, Duration, Keys, Pairs}
use Rattle.jc_script.specs.declared.fault.ScriptFault.{ScriptFault}
use Rattle.jc_script.specs.declared.fault.ScriptFault.TheVariants.{TooLong, NotJson, NotObject, Bad, OutOfMemory}
use Rattle.jc_explain.specs.Found.{json_shown, written_shown}
use Rattle.jc_explain.specs.Lines.{text_shown, suggestion, member_line, missing_line, no_member_line, plain_line}
use Rattle.jc_explain.specs.Methods.{op_of_method}
use Rattle.jc_explain.specs.Other.{other_in}
use Rattle.jc_explain.specs.Policy.{policy_line}
use Rattle.jc_explain.specs.Shape.{script_shape}
use Rattle.jc_explain.specs.Spelling.{nearest}
use Rattle.jc_explain.specs.Stranger.{is_known}
use Rattle.jc_explain.specs.Twice.{twice_line}
use Rattle.jc_explain.specs.Words.{ops, script_members, script_words, script_allowed}

-- the piece at this place, where the first is at n
abbrev pub piece_from : ℕ → ℕ → List (List ℕ) → Option (List ℕ)
piece_from n place [] = None
piece_from n place (piece ∷ pieces) = if n == place then Some piece else piece_from (n + 1) place pieces

-- the bytes are cut at each line feed, and lines are counted from 1
abbrev pub piece_at : ℕ → List ℕ → Option (List ℕ)
piece_at line bytes = piece_from 0 (line - 1) (slice_split is_feed bytes)

abbrev pub json_at : ℕ → List ℕ → Option Data
json_at line bytes = option_and_then json_of (piece_at line bytes)

abbrev pub column_line : ℕ → ℕ → List ℕ → List ℕ
column_line line column why = codes "  line " ++ (decimal line ++ (codes ", column " ++ (decimal column ++ (codes ": " ++ (why ++ codes "\n")))))

-- the fault's line, and a column and what the reader of JSON says of it
abbrev pub TellsColumn : ℕ → List ℕ → Type 0
TellsColumn line text = (column : ℕ) × (why : List ℕ) × (text ≡ column_line line column why)

-- and what the whole script looks like
abbrev pub TellsNotJson : List ℕ → ℕ → List ℕ → Type 0
TellsNotJson bytes line text = (place : List ℕ) × TellsColumn line place × (text ≡ place ++ script_shape bytes)

abbrev pub object_line : Data → List ℕ
object_line d = codes "  the line is " ++ (json_shown d ++ codes "; it has to be an object\n")

-- the op that a method of JCache's is, else the nearest of the words
abbrev pub or_nearest : Option (List ℕ) → List ℕ → List (List ℕ) → Option (List ℕ)
or_nearest None text words = nearest text words
or_nearest (Some op) text words = Some op

abbrev pub near_word : Member → List ℕ → List (List ℕ) → Option (List ℕ)
near_word Op text words = or_nearest (op_of_method text) text words
near_word _ text words = nearest text words

-- what is asked about a value that is a text
abbrev pub value_suggestion_by : List (List ℕ) → Member → Option (List ℕ) → List ℕ
value_suggestion_by names m None = []
value_suggestion_by names m (Some text) = suggestion (near_word m text (script_words names m))

abbrev pub value_suggestion : List (List ℕ) → Member → Data → List ℕ
value_suggestion names m d = value_suggestion_by names m (as_str d)

-- a member as it is, and as it has to be; the names are those of the configuration's caches, a number is as it is written
abbrev pub json_value_line : List (List ℕ) → Member → Option (List ℕ) → Data → List ℕ
json_value_line names m written d = member_line (member_name m) (written_shown written d) (script_allowed m) (value_suggestion names m d)

-- the member nearest to one that no op has
abbrev pub near_other : List ℕ → Option (List ℕ)
near_other word = if is_known script_members word then None else nearest word script_members

abbrev pub other_line_by : Option (List ℕ) → List ℕ
other_line_by None = []
other_line_by (Some word) = no_member_line (text_shown word) (suggestion (near_other word))

-- the first member that the op does not have, if there is one
abbrev pub other_line : Data → List ℕ
other_line d = other_line_by (other_in d)

-- where the member is missing, the first that the op does not have may be meant for it
abbrev pub json_member_lines_by : List (List ℕ) → Member → Option (List ℕ) → Data → Option Data → List ℕ
json_member_lines_by names m written line None = missing_line (member_name m) (script_allowed m) ++ other_line line
json_member_lines_by names m written line (Some d) = json_value_line names m written d

abbrev pub json_member_lines : List (List ℕ) → Member → Option (List ℕ) → Data → List ℕ
json_member_lines names m written line = json_member_lines_by names m written line (get (member_name m) line)

-- the names with a blank before each
abbrev pub names_text : List (List ℕ) → List ℕ
names_text [] = []
names_text (name ∷ names) = codes " " ++ (name ++ names_text names)

-- the caches that a configuration has, or how many
abbrev pub names_line : List (List ℕ) → List ℕ
names_line names =
    if length names == 0 then plain_line (codes "the configuration has no caches") else
    (if nat_lt 16 (length names) then codes "  the configuration has " ++ (decimal (length names) ++ codes " caches\n") else codes "  the configuration has the caches" ++ (names_text names ++ codes "\n"))

abbrev pub ops_line : List ℕ
ops_line = codes "  the ops are" ++ (names_text ops ++ codes "\n")

abbrev pub line_policy : Data → List ℕ
line_policy line = policy_line (is_some (get (codes "expiry") line)) (is_some (get (codes "duration") line))

-- at a cache the names that there are, at an op all ops, at keys the one that is there twice
abbrev pub further : List (List ℕ) → Member → Data → List ℕ
further names Cache line = names_line names
further names Op line = ops_line
further names Duration line = line_policy line
further names Keys line = twice_line false (get (codes "ks") line)
further names Pairs line = twice_line true (get (codes "kvs") line)
further names _ line = []

abbrev pub bad_lines : List (List ℕ) → Member → Option (List ℕ) → Data → List ℕ
bad_lines names m written line = json_member_lines names m written line ++ further names m line

-- of a line that is JSON
abbrev pub lines_at : (Data → List ℕ) → Option Data → List ℕ
lines_at lines None = []
lines_at lines (Some d) = lines d

-- by the line's bytes
abbrev pub bad_in_piece : List (List ℕ) → Member → List ℕ → List ℕ
bad_in_piece names m piece = lines_at (bad_lines names m (number_written (member_name m) piece)) (json_of piece)

abbrev pub bad_at : List (List ℕ) → Member → Option (List ℕ) → List ℕ
bad_at names m None = []
bad_at names m (Some piece) = bad_in_piece names m piece

abbrev pub too_long_line : List ℕ
too_long_line = plain_line (codes "at most 8388608 bytes are read")

-- the lines that explain a fault of these bytes
abbrev pub TellsScriptFault : List ℕ → List (List ℕ) → ScriptFault → List ℕ → Type 0
TellsScriptFault bytes names TooLong text = text ≡ too_long_line
TellsScriptFault bytes names (NotJson n) text = TellsNotJson bytes n text
TellsScriptFault bytes names (NotObject n) text = text ≡ lines_at object_line (json_at n bytes)
TellsScriptFault bytes names (Bad n m) text = text ≡ bad_at names m (piece_at n bytes)
TellsScriptFault bytes names OutOfMemory text = text ≡ []
