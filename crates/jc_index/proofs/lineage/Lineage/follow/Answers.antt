use Rattle.std.proofs.Common.{◌≡◌, [], ◌∷◌, ◌++◌, refl, ap, sym, subst, ◌∙◌}
use Rattle.std.specs.List.{All}
use mathlib.Core.List.{IsPrefix}
use Rattle.jc_index.specs.Stripes.{Front}
use Rattle.jc_index.specs.Lineages.{outgrown, IsEarlier}
use Rattle.jc_index.proofs.Ahead.{listed_more, earlier_more}
use Rattle.jc_index.proofs.lineage.Lineage.follow.Goals as goal

pub invariant_of-self-2 : goal.invariant_of-self-2
invariant_of-self-2 g c =
    let me = c.args.self.now in
    let more = c.push_reserved.ensures.items ∙ (λ i. c.reserve.ensures.items i ++ c.retire.result ∷ []) in
    let next = c.in_ok-writer.ensures.writer.1 in
    let dest = c.replace-old.ensures.after in
    let was : c.retire.result.seat.table_id ≡ me.writer.seat.table_id = c.retire.ensures.0 ∙ ap (λ w. w.seat.table_id) c.replace-old.ensures.value in
    let seen : c.retire.result.seat.me.0.front ≡ me.writer.seat.me.0.front = c.retire.ensures.1 ∙ ap (λ w. w.seat.me.0.front) c.replace-old.ensures.value in
    let longer : IsPrefix me.writer.seat.me.0.front c.replace-old.new.dest.seat.me.0.front = subst (λ (f : Front). IsPrefix me.writer.seat.me.0.front f) (sym (ap (λ w. w.seat.me.0.front) dest ∙ next)) (_, refl) in
    record {
      listed = listed_more _ _ _ me.retired.items _ c.retire.result me.writer c.replace-old.new.dest me.listed was c.add.ensures.items more (ap (λ w. w.seat.table_id) (sym dest));
      earlier = earlier_more me.retired.items _ c.retire.result _ (subst (λ (f : Front). All (IsEarlier f) (outgrown me.retired.items)) (sym seen) me.earlier) more (subst (λ (f : Front). IsPrefix f c.replace-old.new.dest.seat.me.0.front) (sym seen) longer);
    }
