-- What is told of words of which one is no text.
use Rattle.std.specs.Prelude.{◌≡◌, ℕ, zero, suc, ◌+◌, ◌==◌, Bool, false, if◌then◌else◌, List, [], ◌∷◌, ◌++◌, length, take, drop, Option, Some, None, option_map, codes, decimal}
use Rattle.std.specs.Fmt.{digits}
use Rattle.std.specs.Str.{is_utf8}
use Rattle.std.specs.Str.Lossy.{utf8_valid_len, utf8_invalid_len, after_first_chunk}
use Rattle.clap.specs.Words.{Text}
use Rattle.jc_cli.specs.Program.{asks_to_explain}

-- each byte as `\x` and its hexadecimal digits
abbrev pub bytes_shown : List ℕ → Text
bytes_shown [] = []
bytes_shown (byte ∷ bytes) = codes "\\x" ++ (digits 16 false byte ++ bytes_shown bytes)

-- the bytes behind the longest front that is UTF-8, up to where a character may begin
abbrev pub invalid_of : List ℕ → List ℕ
invalid_of bytes = let rest = drop (utf8_valid_len bytes) bytes in take (utf8_invalid_len rest) rest

-- bytes with those that are no UTF-8 shown, in at most k places
abbrev pub shown_within : ℕ → List ℕ → Text
shown_within zero bytes = bytes
shown_within (suc k) bytes = if utf8_valid_len bytes == length bytes then bytes
    else take (utf8_valid_len bytes) bytes ++ (bytes_shown (invalid_of bytes) ++ shown_within k (after_first_chunk bytes))

-- a word with all its bytes that are no UTF-8 shown
unfoldable pub word_shown : List ℕ → Text
word_shown word = shown_within (length word) word

-- the first word that is not UTF-8, with its place, where the first is at n
abbrev pub no_text_from : ℕ → List (List ℕ) → Option (ℕ × List ℕ)
no_text_from n [] = None
no_text_from n (word ∷ words) = if is_utf8 word then no_text_from (n + 1) words else Some (n, word)

abbrev pub told_of_word : ℕ × List ℕ → Text
told_of_word p = codes "a word is not UTF-8\n  word " ++ (decimal p.0 ++ (codes " is '" ++ (word_shown p.1 ++ codes "'\n")))

-- of words that ask for explanations; places are counted from 1
abbrev pub no_text_mistake : Bool → List (List ℕ) → Option Text
no_text_mistake at_terminal words = if asks_to_explain at_terminal words then option_map told_of_word (no_text_from 1 words) else None

-- the text is told of some words
pub record IsToldOfWords (text : Text) : Type 0 where
  pub at_terminal : Bool
  pub words : List (List ℕ)
  pub is : no_text_mistake at_terminal words ≡ Some text
