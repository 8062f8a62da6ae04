use Rattle.std.proofs.Common.{ℕ, None, ap, sym, subst, ◌∙◌}
use Rattle.jc_index.specs.Stripes.{IsOneOf}
use Rattle.jc_index.specs.Found.{answer_with_stash}
use Rattle.jc_index.proofs.Firsts.{answered, passed, taken, unanswered}
use Rattle.jc_index.proofs.Noting.{group_zero, note_is, noted_and, noted_as}
use Rattle.jc_index.proofs.look.look.Goals as goal

pub returns-then-is_some-clause-noted : goal.returns-then-is_some-clause-noted
returns-then-is_some-clause-noted g c js one two stash =
    noted_as (c.look_bucket-first.ensures.noted js one) (λ words is at at'. answered c.look_bucket-first.result _ _ (sym c.is_some.ensures ∙ c.if-is_some.true) (taken c.look_bucket-first.result _ _ (sym c.is_some.ensures ∙ c.if-is_some.true) (is at)))

pub returns-then-is_some-2-clause-noted : goal.returns-then-is_some-2-clause-noted
returns-then-is_some-2-clause-noted g c js one two stash =
    noted_as (noted_and (c.look_bucket-first.ensures.noted js one) (c.look_bucket-second.ensures.noted js two))
    (λ words k at at'. answered c.look_bucket-second.result _ _ (sym c.is_some-2.ensures ∙ c.if-is_some-2.true) (k.1 at' ∙ passed c.look_bucket-first.result _ _ (sym c.is_some.ensures ∙ c.if-is_some.false) (k.0 at)))

pub returns-clause-noted : goal.returns-clause-noted
returns-clause-noted g c js one two stash =
    let it = c.note in
    let count = note_is js c.look_bucket-second.new.reader.seat it.new.self.seat 0 it.result (subst (λ (z : ℕ). IsOneOf z js) (sym group_zero) stash) it.ensures.same it.ensures.view in
    noted_as (noted_and (noted_and (c.look_bucket-first.ensures.noted js one) (c.look_bucket-second.ensures.noted js two)) count)
    (λ words k at at'. c.answer.ensures ∙ (ap (answer_with_stash None) k.1 ∙ unanswered c.look_bucket-second.result _ _ (sym c.is_some-2.ensures ∙ c.if-is_some-2.false) (k.0.1 at' ∙ passed c.look_bucket-first.result _ _ (sym c.is_some.ensures ∙ c.if-is_some.false) (k.0.0 at))))
