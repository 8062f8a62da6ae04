-- Members of a script's line that its op does not have.
use Rattle.std.specs.Prelude.{ℕ, Bool, if◌then◌else◌, List, [], ◌∷◌, Option, Some, None, option_and_then}
use Rattle.serde_json.specs.Data.{Data, Members, no_members, member}
use Rattle.serde_json.specs.Find.{as_object}
use Rattle.jc_script.specs.Members.{has_member}
use Rattle.jc_script.specs.Stray.{op_of}
use Rattle.jc_explain.specs.Stranger.{is_known}
use Rattle.jc_explain.specs.Words.{script_members}

-- the op has the member; where there is no op, any has it
abbrev pub op_has_member : Option (List ℕ) → List ℕ → Bool
op_has_member None name = is_known script_members name
op_has_member (Some op) name = has_member op name

abbrev pub other_among : Option (List ℕ) → List (List ℕ) → Option (List ℕ)
other_among op [] = None
other_among op (name ∷ names) = if op_has_member op name then other_among op names else Some name

abbrev pub line_member_names : Members → List (List ℕ)
line_member_names no_members = []
line_member_names (member k d ms) = k ∷ line_member_names ms

abbrev pub other_of : Option (List ℕ) → Members → Option (List ℕ)
other_of op ms = other_among op (line_member_names ms)

-- the first member of a line, in the order of their names, that its op does not have
abbrev pub other_in : Data → Option (List ℕ)
other_in d = option_and_then (other_of (op_of d)) (as_object d)
