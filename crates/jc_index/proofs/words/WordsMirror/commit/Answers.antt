use Rattle.std.proofs.Common.{◌≡◌, ◌+◌, ◌<◌, ◌++◌, ℕ, List, [], ◌∷◌, Some, length, map, ap, sym, subst, ◌∙◌, arith, take}
use Rattle.std.specs.List.{All}
use mathlib.Core.List.{map-append}
use Rattle.jc_index.specs.Stripes.{Changes, IsVersionCommitted, desk_of, last_of, set_all}
use Rattle.jc_index.proofs.Lists.{last-append}
use Rattle.jc_rows.specs.Images.{Image, last_image}
use Rattle.jc_cuckoo.specs.Images.{IsImage, written_image}
use Rattle.jc_index.specs.StripeLayout.{version_count}
use Rattle.jc_index.specs.Layout.{table_words}
use Rattle.jc_index.specs.Spelling.{IsSpelt, IsLawful, image_in}
use Rattle.jc_index.specs.Batches.{count_for, is_some, stripes_for}
use Rattle.jc_index.proofs.Seeing.{last_images}
use Rattle.jc_index.proofs.Kept.{last_stash, slots_inside}
use Rattle.jc_index.proofs.words.WordsMirror.commit.Goals as goal

pub of-change-requires : goal.of-change-requires
of-change-requires g c = c.requires.few

pub commit-requires-clause-inside : goal.commit-requires-clause-inside
commit-requires-clause-inside g c =
    let me = c.self.inside in
    let is = c.self.invariant.0 in
    let asked = rw (← c.self.view_is) at c.requires.inside in
    let inside = slots_inside me.placer me.buckets me.count me.lineage is c.args.writes.now asked in
    let wide : table_words me.buckets ≡ me.lineage.writer.seat.table_id.words = omega (arith, is.wide) in
    subst (λ (z : List (ℕ × ℕ) × ℕ). All (λ w. version_count + w.0 < z.1) z.0) (λ i. (sym c.writes.ensures i, wide i)) (c.of-change.ensures.inside me.buckets inside)

pub commit-requires-clause-lawful : goal.commit-requires-clause-lawful
commit-requires-clause-lawful g c =
    let me = c.self.inside in
    let is = c.self.invariant.0 in
    let asked = rw (← c.self.view_is) at c.requires.inside in
    let wanted = rw (← c.self.view_is) at c.requires.image in
    let inside = slots_inside me.placer me.buckets me.count me.lineage is c.args.writes.now asked in
    let front = me.lineage.writer.seat.me.0.front in
    let content = last_of front in
    let k = c.of-change.ensures.image me.buckets content inside is.spelt is.counted in
    let same : written_image (last_image (map image_in front)) c.args.writes.now c.args.stash ≡ written_image (image_in content) c.args.writes.now c.args.stash = ap (λ (image : Image). written_image image c.args.writes.now c.args.stash) (last_images front) in
    let placing = g.P.Placer.placing me.placer in
    let lawful : IsLawful placing me.buckets (set_all content (take c.of-change.result.batch.length c.of-change.result.batch.writes)) = record { spelt = k.0; image = subst (IsImage placing) (same ∙ sym k.1) wanted } in
    (record { placer = me.placer; buckets = me.buckets }, is.lawful, subst (λ (l : List (ℕ × ℕ)). IsLawful placing me.buckets (set_all content l)) (sym c.writes.ensures) lawful)

pub invariant_of-self : goal.invariant_of-self
invariant_of-self g c =
    let me = c.self.inside in
    let is = c.self.invariant.0 in
    let asked = rw (← c.self.view_is) at c.requires.inside in
    let inside = slots_inside me.placer me.buckets me.count me.lineage is c.args.writes.now asked in
    let front = me.lineage.writer.seat.me.0.front in
    let content = last_of front in
    let k = c.of-change.ensures.image me.buckets content inside is.spelt is.counted in
    let last : last_of c.commit.new.self.writer.seat.me.0.front ≡ set_all content (take c.of-change.result.batch.length c.of-change.result.batch.writes) =
    ap last_of c.commit.ensures.front ∙ (last-append [] front (set_all content c.writes.result.now) ∙ ap (set_all content) c.writes.ensures) in (
      record {
        lawful = c.commit.ensures.same.1 ∙ is.lawful;
        size = is.size;
        wide = is.wide ∙ ap (λ z. z.words) (sym c.commit.ensures.same.0);
        spelt = subst (IsSpelt me.buckets) (sym last) k.0;
        counted = ap (λ (l : List ℕ). (image_in l).stash) last ∙ ap (λ (image : Image). image.stash) k.1;
      },
      c.commit.ensures.name ∙ c.self.invariant.1,
    )

pub returns-clause-images : goal.returns-clause-images
returns-clause-images g c =
    let me = c.self.inside in
    let is = c.self.invariant.0 in
    let asked = rw (← c.self.view_is) at c.requires.inside in
    let inside = slots_inside me.placer me.buckets me.count me.lineage is c.args.writes.now asked in
    let front = me.lineage.writer.seat.me.0.front in
    let content = last_of front in
    let k = c.of-change.ensures.image me.buckets content inside is.spelt is.counted in
    let next : image_in (set_all content c.writes.result.now) ≡ written_image (last_image (map image_in front)) c.args.writes.now c.args.stash =
    ap (λ (l : List (ℕ × ℕ)). image_in (set_all content l)) c.writes.ensures ∙ (k.1 ∙ sym (ap (λ (image : Image). written_image image c.args.writes.now c.args.stash) (last_images front))) in
    rw (← c.self.view_is)
    (ap (λ (l : List Image). Some l) (ap (map image_in) c.commit.ensures.front ∙ (map-append image_in front (set_all content c.writes.result.now ∷ []) ∙ ap (λ (image : Image). map image_in front ++ image ∷ []) next)))

pub returns-clause-versions : goal.returns-clause-versions
returns-clause-versions g c =
    let me = c.self.inside in
    let stash = last_stash me.placer me.buckets me.count me.lineage c.self.invariant.0 in
    let taken : c.stripes.result.now ≡ stripes_for c.args.writes.now (is_some (count_for (length c.args.writes.now) (last_image (map image_in me.lineage.writer.seat.me.0.front)).stash c.args.stash)) =
    c.stripes.ensures ∙ (c.of-change.ensures.stripes ∙ ap (λ (n : ℕ). stripes_for c.args.writes.now (is_some (count_for (length c.args.writes.now) n c.args.stash))) (sym stash)) in
    rw (← c.self.view_is) (subst (λ (js : List ℕ). Changes IsVersionCommitted js (desk_of me.lineage.writer.seat.me.0).versions (desk_of c.commit.new.self.writer.seat.me.0).versions) taken c.commit.ensures.versions)
