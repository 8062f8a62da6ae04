use Rattle.std.proofs.Common.{◌≡◌, ℕ, ◌*◌, ◌/◌}
use Rattle.jc_cuckoo.specs.Cells.{held_place, IsBucketOf}
use Rattle.jc_cuckoo.proofs.Blank.{first_heir, second_heir, never_full, still_blank, surely}
use Rattle.jc_cuckoo.proofs.cuckoo.Cuckoo.bring.Goals as goal

pub returns-then-first-half-clause-added : goal.returns-then-first-half-clause-added
returns-then-first-half-clause-added g c =
    let twice : c.self.inside.buckets ≡ 2 * c.args.half = rw (← c.self.view_is) at c.requires.twice in
    let heir = rw (← c.rest-first.ensures.rest) at (first_heir (g.P.Placer.placing c.self.inside.placer) c.args.half c.self.inside.buckets c.args.at c.place-place.result (held_place c.args.held) c.self.invariant.0.sound.size twice c.requires.at c.place-place.ensures.same (rw c.rest-first.ensures.rest at c.if-first-half.true)) in
    let bucket : ℕ = c.rest-first.result in
    surely c.fill_first.result c.fill_first.ensures.added (λ f. never_full c.args.half c.args.at bucket c.args.self.now.cells heir c.requires.blank (c.fill_first.ensures.full f))

pub returns-then-first-half-clause-blank : goal.returns-then-first-half-clause-blank
returns-then-first-half-clause-blank g c =
    let twice : c.self.inside.buckets ≡ 2 * c.args.half = rw (← c.self.view_is) at c.requires.twice in
    let heir = rw (← c.rest-first.ensures.rest) at (first_heir (g.P.Placer.placing c.self.inside.placer) c.args.half c.self.inside.buckets c.args.at c.place-place.result (held_place c.args.held) c.self.invariant.0.sound.size twice c.requires.at c.place-place.ensures.same (rw c.rest-first.ensures.rest at c.if-first-half.true)) in
    let bucket : ℕ = c.rest-first.result in
    surely c.fill_first.result (λ t. still_blank c.args.half c.args.at bucket c.args.self.now.cells c.fill_first.new.self.cells c.args.held heir c.requires.blank (c.fill_first.ensures.filled t)) (λ f. never_full c.args.half c.args.at bucket c.args.self.now.cells heir c.requires.blank (c.fill_first.ensures.full f))

pub returns-clause-added : goal.returns-clause-added
returns-clause-added g c =
    let twice : c.self.inside.buckets ≡ 2 * c.args.half = rw (← c.self.view_is) at c.requires.twice in
    let home : IsBucketOf (g.P.Placer.placing c.self.inside.placer) c.args.half (held_place c.args.held) (c.args.at / 4) = rw (← c.self.view_is) at c.requires.bucket in
    let heir = second_heir (g.P.Placer.placing c.self.inside.placer) c.args.half c.self.inside.buckets c.args.at c.alternate-second.result c.place-place.result (held_place c.args.held) c.requires.size twice c.requires.at c.place-place.ensures.same (rw c.rest-first.ensures.rest at c.alternate-second.ensures.alternate) c.alternate-second.ensures.below (rw c.rest-first.ensures.rest at c.if-first-half.false) home in
    let bucket : ℕ = c.alternate-second.result in
    surely c.fill_first-2.result c.fill_first-2.ensures.added (λ f. never_full c.args.half c.args.at bucket c.args.self.now.cells heir c.requires.blank (c.fill_first-2.ensures.full f))

pub returns-clause-blank : goal.returns-clause-blank
returns-clause-blank g c =
    let twice : c.self.inside.buckets ≡ 2 * c.args.half = rw (← c.self.view_is) at c.requires.twice in
    let home : IsBucketOf (g.P.Placer.placing c.self.inside.placer) c.args.half (held_place c.args.held) (c.args.at / 4) = rw (← c.self.view_is) at c.requires.bucket in
    let heir = second_heir (g.P.Placer.placing c.self.inside.placer) c.args.half c.self.inside.buckets c.args.at c.alternate-second.result c.place-place.result (held_place c.args.held) c.requires.size twice c.requires.at c.place-place.ensures.same (rw c.rest-first.ensures.rest at c.alternate-second.ensures.alternate) c.alternate-second.ensures.below (rw c.rest-first.ensures.rest at c.if-first-half.false) home in
    let bucket : ℕ = c.alternate-second.result in
    surely c.fill_first-2.result (λ t. still_blank c.args.half c.args.at bucket c.args.self.now.cells c.fill_first-2.new.self.cells c.args.held heir c.requires.blank (c.fill_first-2.ensures.filled t)) (λ f. never_full c.args.half c.args.at bucket c.args.self.now.cells heir c.requires.blank (c.fill_first-2.ensures.full f))
