use Rattle.std.proofs.Common.{◌≡◌, drop}
use Rattle.json.specs.Value.{members_view}
use Rattle.jc_script.specs.Twice.{has_name}
use Rattle.jc_script.proofs.twice.has_name.Given as goal

-- the name is among all exactly if it is among those that are left
abbrev pub invariant-loop-member : goal.invariant-loop-member
invariant-loop-member l = has_name l.name (members_view l.members) ≡ has_name l.name (members_view (drop l.member-index l.members))
