use Rattle.std.proofs.Common.{◌≡◌, ℕ, List, [], ◌∷◌, length, map, refl, ap, sym, subst, ◌∙◌, arith}
use Rattle.jc_index.specs.Stripes.{last_of}
use Rattle.jc_rows.specs.Images.{Image}
use Rattle.jc_index.specs.Spelling.{IsLawful, IsSpelt, image_in}
use Rattle.jc_index.proofs.Blank.{split_versions, blank, blank_image, blank_spelt, blank_lawful, empty_is}
use Rattle.jc_index.proofs.naming.Unnamed.starting_at.Goals as goal

pub starting_at-requires-clause-versions : goal.starting_at-requires-clause-versions
starting_at-requires-clause-versions g c = (split_versions c.args.start c.in_ok-words.words.items (blank c.args.buckets) c.in_ok-words.ensures).0

pub starting_at-requires-clause-lawful : goal.starting_at-requires-clause-lawful
starting_at-requires-clause-lawful g c =
    let split = split_versions c.args.start c.in_ok-words.words.items (blank c.args.buckets) c.in_ok-words.ensures in
    let placing = g.P.Placer.placing c.args.placer in
    subst (λ (l : List ℕ). IsLawful placing c.args.buckets l) (sym split.1) (blank_lawful c.args.buckets placing)

pub invariant_of-result : goal.invariant_of-result
invariant_of-result g c =
    let content : List ℕ = blank c.args.buckets in
    let split = split_versions c.args.start c.in_ok-words.words.items content c.in_ok-words.ensures in
    let spelt = blank_spelt c.args.buckets in
    let writer = c.in_ok-lineage.lineage.writer in
    let last : last_of writer.seat.me.0.front ≡ content = ap last_of c.in_ok-lineage.ensures.lineage.1 ∙ split.1 in
    record {
      lawful = c.in_ok-lineage.ensures.lineage.0;
      size = c.requires.size;
      wide = omega (arith, writer.sized.0, ap length last, spelt.wide);
      spelt = subst (IsSpelt c.args.buckets) (sym last) spelt;
      counted = ap (λ (l : List ℕ). (image_in l).stash) last;
    }

pub returns-clause-words : goal.returns-clause-words
returns-clause-words g c =
    let split = split_versions c.args.start c.in_ok-words.words.items (blank c.args.buckets) c.in_ok-words.ensures in
    (ap (map image_in) c.in_ok-lineage.ensures.lineage.1 ∙ (ap (λ (l : List ℕ). image_in l ∷ []) split.1 ∙ ap (λ (i : Image). i ∷ []) (blank_image c.args.buckets ∙ empty_is c.args.buckets)), refl, refl)
