-- The lines of an explanation, each below the fault's line and two blanks in.
use Rattle.std.specs.Prelude.{ℕ, nat_lt, if◌then◌else◌, List, [], ◌++◌, length, Option, Some, None, codes, decimal}
use Rattle.json.specs.Print.{quoted}

-- a text as a JSON string, or how long it is
abbrev pub text_shown : List ℕ → List ℕ
text_shown text = if nat_lt 63 (length text) then codes "a string of " ++ (decimal (length text) ++ codes " bytes") else quoted text

abbrev pub suggestion : Option (List ℕ) → List ℕ
suggestion None = []
suggestion (Some word) = codes "; did you mean \"" ++ (word ++ codes "\"?")

abbrev pub member_line : List ℕ → List ℕ → List ℕ → List ℕ → List ℕ
member_line member shown allowed suggestion =
    codes "  \"" ++ (member ++ (codes "\" is " ++ (shown ++ (codes "; it has to be " ++ (allowed ++ (suggestion ++ codes "\n"))))))

abbrev pub missing_line : List ℕ → List ℕ → List ℕ
missing_line member allowed = codes "  \"" ++ (member ++ (codes "\" is missing; it has to be " ++ (allowed ++ codes "\n")))

abbrev pub unknown_line : List ℕ → List ℕ → List ℕ
unknown_line shown suggestion = codes "  unknown member " ++ (shown ++ (suggestion ++ codes "\n"))

abbrev pub no_member_line : List ℕ → List ℕ → List ℕ
no_member_line shown suggestion = codes "  the op has no member " ++ (shown ++ (suggestion ++ codes "\n"))

abbrev pub plain_line : List ℕ → List ℕ
plain_line text = codes "  " ++ (text ++ codes "\n")
