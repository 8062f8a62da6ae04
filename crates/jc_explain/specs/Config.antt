-- Explanations of a configuration's faults.
use Rattle.std.specs.Prelude.{◌≡◌, ◌≤◌, ◌-◌, ℕ, List, [], ◌∷◌, ◌++◌, length, take, Option, Some, None, option_and_then, is_some, codes, decimal}
use Rattle.toml.specs.Data.{Data, Members, get_member, get, at, as_str}
use Rattle.jc_config.specs.Config.{document_of}
use Rattle.jc_config.specs.Faults.{config_member_name}
use Rattle.jc_config.specs.declared.fault.Member.{Member}
use Rattle.jc_config.specs.declared.fault.Member.TheVariants.{Entry, Duration}
use Rattle.jc_config.specs.declared.fault.ConfigFault.{ConfigFault}
use Rattle.jc_config.specs.declared.fault.ConfigFault.TheVariants.{TooLong, NotToml, UnknownEntry, Bad, TooManyCaches, DuplicateName, TotalCapacity, OutOfMemory}
use Rattle.jc_explain.specs.Found.{toml_shown}
use Rattle.jc_explain.specs.Lines.{text_shown, suggestion, member_line, missing_line, unknown_line, plain_line}
use Rattle.jc_explain.specs.Place.{line_number, column_of}
use Rattle.jc_explain.specs.Policy.{policy_line}
use Rattle.jc_explain.specs.Shape.{config_shape}
use Rattle.jc_explain.specs.Spelling.{near_text, nearest}
use Rattle.jc_explain.specs.Stranger.{stranger_in, stranger_of}
use Rattle.jc_explain.specs.Together.{first_line, sum_lines}
use Rattle.jc_explain.specs.Words.{config_members, config_words, config_allowed}

-- a line about the place after these bytes
abbrev pub place_line : List ℕ → List ℕ → List ℕ
place_line before why =
    codes "  line " ++ (decimal (line_number before) ++ (codes ", column " ++ (decimal (column_of before) ++ (codes ": " ++ (why ++ codes "\n")))))

-- the line of a place, and of what the reader of TOML says of it
abbrev pub TellsPlace : List ℕ → List ℕ → Type 0
TellsPlace bytes text = (place : ℕ) × (why : List ℕ) × (place ≤ length bytes) × (text ≡ place_line (take place bytes) why)

-- the table of the cache with this number, counted from 1
abbrev pub table_at : ℕ → Members → Option Data
table_at n document = option_and_then (at (n - 1)) (get_member (codes "cache") document)

-- and what the whole configuration looks like
abbrev pub TellsNotToml : List ℕ → List ℕ → Type 0
TellsNotToml bytes text = (place : List ℕ) × TellsPlace bytes place × (text ≡ place ++ config_shape bytes)

-- the first member that is not known, and the known one that is nearest
abbrev pub stranger_line : List (List ℕ) → Option (List ℕ) → List ℕ
stranger_line known None = []
stranger_line known (Some word) = unknown_line (text_shown word) (suggestion (nearest word known))

abbrev pub only_cache : List (List ℕ)
only_cache = codes "cache" ∷ []

abbrev pub entry_lines_by : Option (List ℕ) → List ℕ
entry_lines_by None = plain_line (codes "\"cache\" has to be a list of tables, each headed [[cache]]")
entry_lines_by (Some word) = stranger_line only_cache (Some word)

abbrev pub entry_lines : Members → List ℕ
entry_lines document = entry_lines_by (stranger_in only_cache document)

-- the word nearest to a value that is a text
abbrev pub near_toml_value : Data → List (List ℕ) → Option (List ℕ)
near_toml_value d words = near_text words (as_str d)

-- a member as it is, and as it has to be
abbrev pub toml_value_line : Member → Data → List ℕ
toml_value_line m d = member_line (config_member_name m) (toml_shown d) (config_allowed m) (suggestion (near_toml_value d (config_words m)))

-- where the member is missing, the first one that is not known may be meant for it
abbrev pub toml_member_lines_by : Member → Data → Option Data → List ℕ
toml_member_lines_by m t None = missing_line (config_member_name m) (config_allowed m) ++ stranger_line config_members (stranger_of config_members t)
toml_member_lines_by m t (Some d) = toml_value_line m d

abbrev pub toml_member_lines : Member → Data → List ℕ
toml_member_lines m t = toml_member_lines_by m t (get (config_member_name m) t)

abbrev pub table_policy : Data → List ℕ
table_policy t = policy_line (is_some (get (codes "expiry") t)) (is_some (get (codes "duration") t))

abbrev pub table_lines : Member → Data → List ℕ
table_lines Entry t = stranger_line config_members (stranger_of config_members t)
table_lines Duration t = toml_member_lines Duration t ++ table_policy t
table_lines m t = toml_member_lines m t

abbrev pub duplicate_lines_by : Option Data → List ℕ
duplicate_lines_by None = []
duplicate_lines_by (Some d) = member_line (codes "name") (toml_shown d) (codes "another than that of each table before") []

abbrev pub duplicate_lines : Members → Data → List ℕ
duplicate_lines document t = duplicate_lines_by (get (codes "name") t) ++ first_line document t

-- a bad member of a table, or its name that an earlier one has
abbrev pub lines_in : Members → Option Member → Option Data → List ℕ
lines_in document m None = []
lines_in document None (Some t) = duplicate_lines document t
lines_in document (Some m) (Some t) = table_lines m t

abbrev pub of_document : (Members → List ℕ) → Option Members → List ℕ
of_document lines None = []
of_document lines (Some document) = lines document

abbrev pub at_table : ℕ → Option Member → Option Members → List ℕ
at_table n m document = of_document (λ ms. lines_in ms m (table_at n ms)) document

-- the lines that explain a fault of these bytes
abbrev pub TellsConfigFault : List ℕ → ConfigFault → List ℕ → Type 0
TellsConfigFault bytes TooLong text = text ≡ plain_line (codes "at most 8388608 bytes are read")
TellsConfigFault bytes NotToml text = TellsNotToml bytes text
TellsConfigFault bytes UnknownEntry text = text ≡ of_document entry_lines (document_of bytes)
TellsConfigFault bytes (Bad n m) text = text ≡ at_table n (Some m) (document_of bytes)
TellsConfigFault bytes TooManyCaches text = text ≡ plain_line (codes "at most 1024 tables [[cache]] are read")
TellsConfigFault bytes (DuplicateName n) text = text ≡ at_table n None (document_of bytes)
TellsConfigFault bytes TotalCapacity text = text ≡ of_document sum_lines (document_of bytes)
TellsConfigFault bytes OutOfMemory text = text ≡ []

abbrev pub no_caches_line : List ℕ
no_caches_line = plain_line (codes "--strict asks for a table [[cache]] at least")
