use Rattle.std.proofs.Common.{◌≡◌, map, option_map, string_bytes}
use Rattle.serde_json.specs.View.{members_view}
use Rattle.jc_explain.specs.Other.{other_of, other_among}
use Rattle.jc_explain.proofs.other.other_of.Given as goal

-- the first of the names that are left is the first of all
abbrev pub invariant-loop-name : goal.invariant-loop-name
invariant-loop-name l =
    other_among (option_map (λ o. o.now) l.op) (map string_bytes l.name-iterator) ≡ other_of (option_map (λ o. o.now) l.op) (members_view l.members.entries)
