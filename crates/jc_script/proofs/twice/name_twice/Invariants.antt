use Rattle.std.proofs.Common.{◌≡◌, drop}
use Rattle.json.specs.Value.{members_view}
use Rattle.jc_script.specs.Twice.{name_twice}
use Rattle.jc_script.proofs.twice.name_twice.Given as goal

-- the first of the members that are left is the first of all
abbrev pub invariant-loop-i : goal.invariant-loop-i
invariant-loop-i l = name_twice (members_view l.members) ≡ name_twice (members_view (drop l.i l.members))
