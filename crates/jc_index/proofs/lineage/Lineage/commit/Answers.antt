use Rattle.std.proofs.Common.{◌++◌, ◌∷◌, [], map, refl, ap, sym, subst, ◌∙◌}
use mathlib.Core.List.{IsPrefix}
use Rattle.jc_index.specs.Stripes.{Front}
use Rattle.jc_index.specs.Lineages.{outgrown}
use Rattle.jc_index.proofs.Ahead.{earlier_on}
use Rattle.jc_index.proofs.lineage.Lineage.commit.Goals as goal

pub invariant_of-self : goal.invariant_of-self
invariant_of-self g c =
    let me = c.args.self.now in
    record {
      listed = me.listed ∙ ap (λ t. map (λ p. p.0) (outgrown me.retired.items) ++ t ∷ []) (sym c.commit.ensures.same.0);
      earlier = earlier_on me.writer.seat.me.0.front c.commit.new.self.seat.me.0.front (outgrown me.retired.items) (subst (λ (f : Front). IsPrefix me.writer.seat.me.0.front f) (sym c.commit.ensures.front) (_, refl)) me.earlier;
    }
