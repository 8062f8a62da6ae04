use Rattle.std.proofs.Common.{◌∙◌}
use Rattle.jc_cuckoo.proofs.Empty.{table_none}
use Rattle.jc_cuckoo.proofs.Listed.{indexed_none}
use Rattle.jc_cuckoo.proofs.cuckoo.Cuckoo.with_room.Goals as goal

pub invariant_of-result : goal.invariant_of-result
invariant_of-result g c =
    (table_none (g.P.Placer.placing c.args.placer) (g.M.Mirror.placing c.args.mirror) (g.M.Mirror.images c.args.mirror) c.args.buckets c.in_ok-tags.tags.items c.in_ok-cells.cells.items c.requires.size (c.in_ok-tags.ensures.items_if_clones_equal (λ y e. e)) c.in_ok-cells.ensures.cells c.requires.mirror, indexed_none (g.P.Placer.keying c.args.placer) c.args.buckets _ _ c.in_ok-cells.ensures.cells c.in_ok-index.ensures.none (c.in_ok-index.ensures.hasher ∙ c.keyed.ensures))
