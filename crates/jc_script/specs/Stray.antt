-- The first line of a script with a member that its op does not need, or that stands twice.
use Rattle.std.specs.Prelude.{◌≡◌, ℕ, ◌+◌, ◌&&◌, Bool, true, false, List, [], ◌∷◌, Option, Some, None, option_and_then, if◌then◌else◌, codes}
use Rattle.std.specs.List.{slice_split}
use Rattle.serde_json.specs.Data.{Data, Members, no_members, member}
use Rattle.serde_json.specs.Find.{get, as_object, as_str}
use Rattle.jc_script.specs.Member.{json_of}
use Rattle.jc_script.specs.Script.{is_feed}
use Rattle.jc_script.specs.Members.{has_member}
use Rattle.jc_script.specs.Twice.{member_twice}

abbrev pub line_members_are : (List ℕ → Bool) → Members → Bool
line_members_are known no_members = true
line_members_are known (member k d ms) = known k && line_members_are known ms

-- what has no op, or is no object, is told by other faults
abbrev pub knows_line_by : Option Members → Option (List ℕ) → Bool
knows_line_by None op = true
knows_line_by (Some ms) None = true
knows_line_by (Some ms) (Some op) = line_members_are (has_member op) ms

abbrev pub op_of : Data → Option (List ℕ)
op_of d = option_and_then as_str (get (codes "op") d)

-- two lines have the same values at the members that an op needs or may have
abbrev pub AgreeOn : List ℕ → Data → Data → Type 0
AgreeOn op d d' = (name : List ℕ) → has_member op name ≡ true → get name d ≡ get name d'

abbrev pub knows_line : Data → Bool
knows_line d = knows_line_by (as_object d) (op_of d)

-- no member stands twice
abbrev pub has_each_once : Option (List ℕ) → Option (List ℕ) → Bool
has_each_once None twice = true
has_each_once (Some op) None = true
has_each_once (Some op) (Some name) = false

abbrev pub may_know : Option (List ℕ) → Option Data → Bool
may_know twice None = true
may_know twice (Some d) = knows_line d && has_each_once (op_of d) twice

unfoldable pub is_known_piece : List ℕ → Bool
is_known_piece piece = may_know (member_twice piece) (json_of piece)

-- of the pieces from line n on
abbrev pub stray_from : ℕ → List (List ℕ) → Option ℕ
stray_from n [] = None
stray_from n (piece ∷ pieces) = if is_known_piece piece then stray_from (n + 1) pieces else Some n

-- the bytes are cut at each line feed, and lines are counted from 1
unfoldable pub stray_line : List ℕ → Option ℕ
stray_line bytes = stray_from 1 (slice_split is_feed bytes)
