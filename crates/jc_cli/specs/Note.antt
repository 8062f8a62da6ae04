-- What is told of mistaken words in place of what `clap` says of them.
use Rattle.std.specs.Prelude.{◌≡◌, ◌⊎◌, ◌==◌, ◌||◌, ◌&&◌, not, ℕ, Bool, false, if◌then◌else◌, List, [], ◌∷◌, ◌++◌, length, take, drop, Option, Some, None, codes, ⊤}
use Rattle.std.specs.Bool.{MatchBool}
use Rattle.std.specs.List.{list_any}
use Rattle.std.specs.Str.{bytes_eq}
use Rattle.clap.specs.Words.{Text}
use Rattle.jc_cli.specs.Number.{note_among}
use Rattle.jc_cli.specs.Program.{SaysCapacity, SaysNoCapacity, between_commas}

-- a word in place of a subcommand that is like a path: it has a dot or a slash, and no option's sign before it
abbrev pub is_mark_of_path : ℕ → Bool
is_mark_of_path byte = byte == 46 || byte == 47

abbrev pub begins_option : Text → Bool
begins_option [] = false
begins_option (byte ∷ bytes) = byte == 45

abbrev pub is_like_path : Text → Bool
is_like_path word = not (begins_option word) && list_any is_mark_of_path word

abbrev pub run_hint : Text → Text
run_hint word =
    if is_like_path word then codes "unrecognized subcommand '" ++ (word ++ (codes "'; did you mean 'jcache run " ++ (word ++ codes " ..'?\n"))) else []

-- the capacities behind their option, in its word or the next; words behind `--` are paths
abbrev pub capacity_prefix : Text
capacity_prefix = codes "--capacity="

abbrev pub first_word : List Text → Option Text
first_word [] = None
first_word (word ∷ words) = Some word

abbrev pub list_in : Text → Option Text
list_in word = if bytes_eq (take (length capacity_prefix) word) capacity_prefix then Some (drop (length capacity_prefix) word) else None

abbrev pub list_or : Option Text → Option Text → Option Text
list_or (Some list) later = Some list
list_or None later = later

abbrev pub capacities_in : List Text → Option Text
capacities_in [] = None
capacities_in (word ∷ words) =
    if bytes_eq word (codes "--") then None else
    (if bytes_eq word (codes "--capacity") then first_word words else list_or (list_in word) (capacities_in words))

abbrev pub capacity_line : Text → Text
capacity_line part = codes "invalid value '" ++ (part ++ codes "' for '--capacity <LIST>': not a whole number in 1..=65536\n")

-- the first part that is no capacity, if there is one
abbrev pub NotesParts : List Text → Text → Type 0
NotesParts [] note = note ≡ []
NotesParts (part ∷ parts) note = (SaysNoCapacity part × (note ≡ capacity_line part)) ⊎ ((n : ℕ) × SaysCapacity part n × NotesParts parts note)

abbrev pub NotesList : Option Text → Text → Type 0
NotesList None note = note ≡ []
NotesList (Some list) note = NotesParts (between_commas list) note

-- of a number below 0, of a capacity, or of a subcommand that is left out
abbrev pub NotesOn : List Text → Text → Type 0
NotesOn [] note = note ≡ []
NotesOn (word ∷ words) note =
    MatchBool (bytes_eq word (codes "run")) (note ≡ note_among words)
    (MatchBool (bytes_eq word (codes "replay")) (NotesList (capacities_in words) note) (note ≡ run_hint word))

abbrev pub IsFirst : Text → Text → Type 0
IsFirst [] text = ⊤
IsFirst (byte ∷ bytes) text = text ≡ byte ∷ bytes

-- the note, where there is one
pub record TellsMistake (words : List Text) (text : Text) : Type 0 where
  pub note : Text
  pub notes : NotesOn words note
  pub first : IsFirst note text
