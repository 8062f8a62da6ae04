use Rattle.std.proofs.Common.{ap, map, string_bytes, ◌∙◌}
use Rattle.jc_explain.specs.Stranger.{stranger_among}
use Rattle.jc_explain.specs.Words.{words_lent}
use Rattle.jc_explain.proofs.TableNames.{names_in_order}
use Rattle.jc_explain.proofs.stranger.stranger_in.Goals as goal

pub loop-name-init : goal.loop-name-init
loop-name-init c =
    ap (λ names. stranger_among (words_lent c.args.known.now) (map string_bytes names)) (c.into_iter-name-iterator.ensures.into_iter_gives ∙ c.keys-name-items.ensures.rest)
    ∙ ap (stranger_among (words_lent c.args.known.now)) (names_in_order c.args.table.now.entries)
