use Rattle.std.proofs.Common.{ap, map, option_map, string_bytes, ◌∙◌}
use Rattle.jc_explain.specs.Other.{other_among}
use Rattle.jc_explain.proofs.MemberNames.{names_in_order}
use Rattle.jc_explain.proofs.other.other_of.Goals as goal

pub loop-name-init : goal.loop-name-init
loop-name-init c =
    ap (λ names. other_among (option_map (λ o. o.now) c.args.op) (map string_bytes names)) (c.into_iter-name-iterator.ensures.into_iter_gives ∙ c.keys-name-items.ensures.rest)
    ∙ ap (other_among (option_map (λ o. o.now) c.args.op)) (names_in_order c.args.members.now.entries)
