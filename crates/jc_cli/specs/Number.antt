-- What is told below a mistake of `clap`'s: that a number below 0 is none of those that an option of `run` takes.
use Rattle.std.specs.Prelude.{◌==◌, ◌&&◌, ℕ, Bool, false, if◌then◌else◌, List, [], ◌∷◌, ◌++◌, Option, Some, None, codes}
use Rattle.std.specs.Char.{is_ascii_digit}
use Rattle.std.specs.Fmt.{signed_decimal}
use Rattle.std.specs.Int.{is_in_range}
use Rattle.std.specs.List.{list_any}
use Rattle.std.specs.Str.{bytes_eq}
use Rattle.clap.specs.Words.{Text}
use Rattle.clap.specs.declared.builder.value_parser.ValueParser.{ValueParser}
use Rattle.clap.specs.declared.builder.value_parser.ValueParser.TheVariants.{Signed}
use Rattle.jc_cli.specs.Program.{workers_rule, seed_rule}

-- the numbers of a rule, from the least to the greatest
abbrev pub limits_by : Option ValueParser → Option Text
limits_by (Some (Signed least greatest)) = Some (signed_decimal least ++ (codes "..=" ++ signed_decimal greatest))
limits_by _ = None

-- the numbers that an option takes, if it takes one
abbrev pub limits_of : Text → Option Text
limits_of option =
    if bytes_eq option (codes "--workers") then limits_by workers_rule.parser else
    (if bytes_eq option (codes "--seed") then limits_by seed_rule.parser else None)

abbrev pub is_above_zero : ℕ → Bool
is_above_zero digit = is_in_range 49 57 digit

-- a word that begins as a number below 0: a sign and a digit, and not all digits are 0
abbrev pub is_below_zero : Text → Bool
is_below_zero (sign ∷ digit ∷ rest) = sign == 45 && (is_ascii_digit digit && list_any is_above_zero (digit ∷ rest))
is_below_zero _ = false

abbrev pub first_below_zero : List Text → Option Text
first_below_zero [] = None
first_below_zero (word ∷ words) = if is_below_zero word then Some word else None

-- as `clap` tells it of a number behind `=`
abbrev pub number_line : Text → Text → Text → Text
number_line option number limits =
    codes "invalid value '" ++ (number ++ (codes "' for '" ++ (option ++ (codes " <N>': " ++ (number ++ (codes " is not in " ++ (limits ++ codes "\n")))))))

abbrev pub note_by : Text → Option Text → Option Text → Text → Text
note_by option None number later = later
note_by option (Some limits) None later = later
note_by option (Some limits) (Some number) later = number_line option number limits

-- of the first option that takes a number and has one below 0 behind it; words behind `--` are paths
abbrev pub note_among : List Text → Text
note_among [] = []
note_among (word ∷ words) =
    if bytes_eq word (codes "--") then [] else note_by word (limits_of word) (first_below_zero words) (note_among words)
