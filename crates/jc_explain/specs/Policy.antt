-- What a policy and its duration ask of each other.
use Rattle.std.specs.Prelude.{ℕ, ◌&&◌, not, Bool, if◌then◌else◌, List, [], codes}
use Rattle.jc_explain.specs.Lines.{plain_line}

-- whether there is an expiry, and a duration
abbrev pub policy_line : Bool → Bool → List ℕ
policy_line has_expiry has_duration =
    if has_duration && not has_expiry then plain_line (codes "without \"expiry\" it is \"eternal\", which has no \"duration\"") else
    (if has_expiry && not has_duration then plain_line (codes "each \"expiry\" but \"eternal\" asks for a \"duration\"") else [])
