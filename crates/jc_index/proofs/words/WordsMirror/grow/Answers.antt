use Rattle.std.proofs.Common.{◌≡◌, ◌*◌, ◌++◌, ℕ, List, [], ◌∷◌, Some, length, map, ap, sym, subst, ◌∙◌, arith}
use mathlib.Core.List.{map-append}
use Rattle.jc_index.specs.Stripes.{last_of}
use Rattle.jc_index.proofs.Lists.{last-append}
use Rattle.jc_rows.specs.Images.{Image}
use Rattle.jc_cuckoo.specs.Images.{grown_image}
use Rattle.jc_index.specs.Spelling.{IsLawful, IsSpelt, words_of_image, image_in}
use Rattle.jc_index.proofs.Blank.{split_versions, all_coded, filled_image}
use Rattle.jc_index.proofs.Kept.{grown_lawful, grown_size}
use Rattle.jc_index.proofs.words.WordsMirror.grow.Goals as goal

pub follow-requires-clause-lawful : goal.follow-requires-clause-lawful
follow-requires-clause-lawful g c =
    let me = c.self.inside in
    let asked = rw (← c.self.view_is) at c.requires.growth in
    let split = split_versions 0 c.in_ok-words.words.items (words_of_image (grown_image c.args.slots.now c.args.stash)) c.in_ok-words.ensures.0 in
    let placing = g.P.Placer.placing me.placer in
    let lawful = grown_lawful me.placer me.buckets me.count me.lineage c.self.invariant.0 placing c.args.slots.now c.args.stash asked c.in_ok-words.ensures.1 in
    subst (λ (l : List ℕ). IsLawful placing (2 * me.buckets) l) (sym split.1) lawful

pub invariant_of-self-2 : goal.invariant_of-self-2
invariant_of-self-2 g c =
    let me = c.self.inside in
    let asked = rw (← c.self.view_is) at c.requires.growth in
    let image = grown_image c.args.slots.now c.args.stash in
    let split = split_versions 0 c.in_ok-words.words.items (words_of_image image) c.in_ok-words.ensures.0 in
    let lawful = grown_lawful me.placer me.buckets me.count me.lineage c.self.invariant.0 (g.P.Placer.placing me.placer) c.args.slots.now c.args.stash asked c.in_ok-words.ensures.1 in
    let writer = c.follow.new.self.writer in
    let last : last_of writer.seat.me.0.front ≡ words_of_image image = ap last_of c.in_ok-follow.ensures.ok.1 ∙ (last-append [] me.lineage.writer.seat.me.0.front _ ∙ split.1) in (
      record {
        lawful = c.in_ok-follow.ensures.ok.0;
        size = grown_size me.placer me.buckets me.count me.lineage c.self.invariant.0 (g.P.Placer.placing me.placer) c.args.slots.now c.args.stash asked;
        wide = omega (arith, writer.sized.0, ap length last, lawful.spelt.wide);
        spelt = subst (IsSpelt (2 * me.buckets)) (sym last) lawful.spelt;
        counted = ap (λ (l : List ℕ). (image_in l).stash) last;
      },
      c.follow.ensures.name ∙ c.self.invariant.1,
    )

pub returns-clause-images : goal.returns-clause-images
returns-clause-images g c =
    let me = c.self.inside in
    let asked = rw (← c.self.view_is) at c.requires.growth in
    let image = grown_image c.args.slots.now c.args.stash in
    let front = me.lineage.writer.seat.me.0.front in
    let split = split_versions 0 c.in_ok-words.words.items (words_of_image image) c.in_ok-words.ensures.0 in
    let is : image_in (words_of_image image) ≡ image = filled_image image (all_coded c.args.slots.now c.in_ok-words.ensures.1) asked.image.slots in
    rw (← c.self.view_is)
    (ap (λ (l : List Image). Some l) (ap (map image_in) c.in_ok-follow.ensures.ok.1 ∙ (map-append image_in front _ ∙ ap (λ (i : Image). map image_in front ++ i ∷ []) (ap image_in split.1 ∙ is))))
