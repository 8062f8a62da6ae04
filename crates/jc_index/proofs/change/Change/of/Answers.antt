use Rattle.std.proofs.Common.{◌≡◌, ◌<◌, ◌+◌, ℕ, List, Some, None, length, subst, sym, ap, ◌∙◌, inl, inr, ⊎_elim}
use Rattle.std.specs.List.{All}
use Rattle.jc_index.specs.Stripes.{AreUnderVersions, set_all}
use Rattle.jc_index.specs.StripeLayout.{version_count}
use Rattle.jc_index.specs.Layout.{table_words}
use Rattle.jc_index.specs.Spelling.{IsSpelt, group_of, image_in}
use Rattle.jc_cuckoo.specs.Images.{written_image}
use Rattle.jc_index.specs.Batches.{is_some}
use Rattle.jc_index.proofs.Changing.{few_stripes, covered_batch, some_batch, inside_batch, image_batch, count_in}
use Rattle.jc_index.proofs.change.Change.of.Goals as goal

pub returns-clause-some : goal.returns-clause-some
returns-clause-some c = subst (λ (l : List (ℕ × ℕ)). 0 < length l) (sym c.change_for.ensures.batch)
    (some_batch c.args.writes.now c.count_of-count.result (⊎_elim (λ (e : c.count_of-count.result ≡ Some c.args.stash). inr (ap is_some e)) (λ (t : (c.count_of-count.result ≡ None) × (c.args.old ≡ c.args.stash) × (0 < length c.args.writes.now)). inl t.2) c.count_of-count.ensures.cases))

pub returns-clause-few : goal.returns-clause-few
returns-clause-few c = subst (λ (l : List ℕ). All (λ j. j < version_count) l) (sym c.change_for.ensures.stripes) (few_stripes c.args.writes.now (is_some c.count_of-count.result))

pub returns-clause-covered : goal.returns-clause-covered
returns-clause-covered c = subst (λ (z : List ℕ × List (ℕ × ℕ)). AreUnderVersions group_of z.0 z.1) (λ i. (sym c.change_for.ensures.stripes i, sym c.change_for.ensures.batch i)) (covered_batch c.args.writes.now c.count_of-count.result c.requires)

pub returns-clause-inside : goal.returns-clause-inside
returns-clause-inside c buckets all = subst (λ (l : List (ℕ × ℕ)). All (λ w. version_count + w.0 < table_words buckets) l) (sym c.change_for.ensures.batch) (inside_batch buckets c.args.writes.now c.count_of-count.result all)

pub returns-clause-image : goal.returns-clause-image
returns-clause-image c buckets words all spelt count =
    let is : count_in (image_in words).stash c.count_of-count.result ≡ c.args.stash = ⊎_elim (λ (e : c.count_of-count.result ≡ Some c.args.stash). ap (count_in (image_in words).stash) e)
    (λ (t : (c.count_of-count.result ≡ None) × (c.args.old ≡ c.args.stash) × (0 < length c.args.writes.now)). ap (count_in (image_in words).stash) t.0 ∙ (count ∙ t.1)) c.count_of-count.ensures.cases in
    subst (λ (l : List (ℕ × ℕ)). IsSpelt buckets (set_all words l) × (image_in (set_all words l) ≡ written_image (image_in words) c.args.writes.now c.args.stash)) (sym c.change_for.ensures.batch)
    (image_batch buckets words c.args.writes.now c.count_of-count.result c.args.stash all c.change_for.ensures.coded spelt is)
