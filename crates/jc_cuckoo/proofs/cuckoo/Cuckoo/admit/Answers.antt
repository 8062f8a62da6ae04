use Rattle.std.proofs.Common.{ℕ, ◌%◌, ap, ◌∙◌}
use Rattle.jc_place.specs.declared.place.Place.{Place}
use Rattle.jc_place.specs.Place.{alternate_of}
use Rattle.jc_cuckoo.proofs.Doubled.{full_at, needs_filled, needs_stowed}
use Rattle.jc_cuckoo.proofs.cuckoo.Cuckoo.admit.Goals as goal

pub returns-then-fill_first-clause-needed : goal.returns-then-fill_first-clause-needed
returns-then-fill_first-clause-needed g c =
    let n : ℕ = c.self.inside.buckets in
    let added = rw (← c.self.view_is) at (c.fill_first.ensures.added c.if-fill_first.true) in
    let filled = rw (← c.self.view_is) at (c.fill_first.ensures.filled c.if-fill_first.true) in
    rw (← c.self.view_is) (λ needs. needs_filled (g.P.Placer.placing c.self.inside.placer) n c.fill_first.new.self.buckets c.rest-first.result c.self.inside.cells.items c.fill_first.new.self.cells c.same.result added.buckets c.rest-first.ensures.below c.self.invariant.0.sound.wide filled needs)

pub returns-then-fill_first-2-clause-needed : goal.returns-then-fill_first-2-clause-needed
returns-then-fill_first-2-clause-needed g c =
    let n : ℕ = c.self.inside.buckets in
    let same = c.fill_first.ensures.same c.if-fill_first.false in
    let added = rw (← c.self.view_is) at (rw same at (c.fill_first-2.ensures.added c.if-fill_first-2.true)) in
    let filled = rw (← c.self.view_is) at (rw same at (c.fill_first-2.ensures.filled c.if-fill_first-2.true)) in
    rw (← c.self.view_is) (λ needs. needs_filled (g.P.Placer.placing c.self.inside.placer) n c.fill_first-2.new.self.buckets c.alternate-second.result c.self.inside.cells.items c.fill_first-2.new.self.cells c.same-2.result added.buckets c.alternate-second.ensures.below c.self.invariant.0.sound.wide filled needs)

pub returns-clause-needed : goal.returns-clause-needed
returns-clause-needed g c =
    let n : ℕ = c.self.inside.buckets in
    let p = g.P.Placer.placing c.self.inside.placer in
    let same = c.fill_first.ensures.same c.if-fill_first.false in
    let again = c.fill_first-2.ensures.same c.if-fill_first-2.false in
    let cells = rw (← c.self.view_is) at (rw (again, same) at c.stow.ensures.cells) in
    let buckets = rw (← c.self.view_is) at (rw (again, same) at c.stow.ensures.follows.buckets) in
    let first = rw (← c.self.view_is) at (c.fill_first.ensures.full c.if-fill_first.false) in
    let second = rw (← c.self.view_is) at (rw same at (c.fill_first-2.ensures.full c.if-fill_first-2.false)) in
    let one = full_at c.self.inside.cells.items _ _ (c.rest-first.ensures.rest ∙ ap (λ (x : Place). x.first % n) c.place-place.ensures.same) first in
    let two = full_at c.self.inside.cells.items _ _ (c.alternate-second.ensures.alternate ∙ (ap (alternate_of n c.place-place.result.tag) c.rest-first.ensures.rest ∙ ap (λ (x : Place). alternate_of n x.tag (x.first % n)) c.place-place.ensures.same)) second in
    rw (← c.self.view_is) (λ needs. needs_stowed p n c.stow.new.self.buckets c.self.inside.cells.items c.stow.new.self.cells c.args.held buckets cells one two needs)
