use Rattle.std.proofs.Common.{ap, subst}
use Rattle.jc_cuckoo.specs.Index.{IsIndexed}
use Rattle.jc_cuckoo.proofs.Grown.{growth, grown_next, table_grown}
use Rattle.jc_cuckoo.proofs.Shows.{shows}
use Rattle.jc_cuckoo.proofs.cuckoo.Cuckoo.take_over.Goals as goal

pub grow-requires : goal.grow-requires
grow-requires g c =
    let d = rw (← c.twice.view_is, ← c.self.view_is) at c.requires.doubled in
    let few = rw (← c.self.view_is) at c.requires.few in
    let told = rw (← c.twice.view_is) at c.slots_and_stash-stash.ensures in
    record { growth = growth (g.P.Placer.placing c.self.inside.placer) (g.P.Placer.placing c.twice.inside.placer) (g.M.Mirror.placing c.self.inside.mirror) (g.M.Mirror.images c.self.inside.mirror) c.self.inside.buckets c.twice.inside.buckets c.slots_and_stash-stash.result.1 c.twice.inside.tags.items c.self.inside.cells.items c.twice.inside.cells.items c.slots_and_stash-stash.result.0.now c.self.invariant.0.mirrored (ap g.P.Placer.placing d.placer) d.buckets few c.twice.invariant.0.sound told.image told.slots }

pub invariant_of-self : goal.invariant_of-self
invariant_of-self g c =
    let d = rw (← c.twice.view_is, ← c.self.view_is) at c.requires.doubled in
    let told = rw (← c.twice.view_is) at c.slots_and_stash-stash.ensures in (
      table_grown (g.P.Placer.placing c.self.inside.placer) (g.P.Placer.placing c.twice.inside.placer) (g.M.Mirror.placing c.self.inside.mirror) (g.M.Mirror.placing c.grow.new.self) (g.M.Mirror.images c.self.inside.mirror) (g.M.Mirror.images c.grow.new.self) c.self.inside.buckets c.twice.inside.buckets c.self.inside.held c.self.inside.tags.items c.twice.inside.tags.items c.self.inside.cells.items c.twice.inside.cells.items
          c.self.invariant.0 (ap g.P.Placer.placing d.placer) c.twice.invariant.0.sound c.twice.invariant.0.short d.rows c.grow.ensures.placing (grown_next _ _ _ _ told.image c.in-Ok.ensures.images),
      subst (λ p. IsIndexed (g.P.Placer.keying p) c.twice.inside.buckets c.twice.inside.cells.items c.twice.inside.index) d.placer c.twice.invariant.1,
    )

pub returns-in-Ok-clause-images : goal.returns-in-Ok-clause-images
returns-in-Ok-clause-images g c =
    let told = rw (← c.twice.view_is) at c.slots_and_stash-stash.ensures in
    rw (← c.self.view_is) (λ t. record { images = grown_next _ _ _ _ told.image c.in-Ok.ensures.images; shows = shows (g.P.Placer.placing c.twice.inside.placer) c.twice.inside.buckets c.twice.inside.tags.items c.twice.inside.cells.items c.twice.invariant.0.sound })
