use Rattle.std.proofs.Common.{ap, sym, subst, ◌∙◌}
use mathlib.Core.List.{IsPrefix}
use Rattle.jc_index.specs.Stripes.{Front}
use Rattle.jc_index.proofs.Lists.{prefix_trans}
use Rattle.jc_index.proofs.Ahead.{table_at, earlier_at, map_set_same}
use Rattle.jc_index.proofs.lineage.hear_at.Goals as goal

pub hear-requires : goal.hear-requires
hear-requires g c = sym (ap (λ w. w.seat.table_id) c.index_mut-writer.ensures.value ∙ table_at c.args.writers.now.items c.args.generation _ _ c.requires)

pub returns-clause-same : goal.returns-clause-same
returns-clause-same g c = let was = c.index_mut-writer.ensures.value in
    map_set_same (λ w. (w.seat.table_id, w.seat.me.0.front)) c.args.writers.now.items c.args.generation c.index_mut-writer.result.now c.hear.new.self
    (λ i. ((c.hear.ensures.same.0 ∙ ap (λ w. w.seat.table_id) was) i, (c.hear.ensures.same.1 ∙ ap (λ w. w.seat.me.0.front) was) i))

pub returns-clause-seen : goal.returns-clause-seen
returns-clause-seen g c front all = let was = c.index_mut-writer.ensures.value in
    let at = earlier_at front c.args.writers.now.items c.args.generation c.index_mut-writer.result.now _ c.requires all in
    let here = subst (λ (f : Front). IsPrefix f front) (sym (ap (λ w. w.seat.me.0.front) was)) at in prefix_trans _ _ _ c.hear.ensures.seen here
