use Rattle.std.proofs.Common.{ℕ, ◌<◌, ◌++◌, length, get_or, Option, None, arith, ap, sym, subst, ◌∙◌}
use mathlib.Core.Logic.{dite}
use native.Mathlib.Decide.{ℕ_discrete}
use Rattle.jc_cuckoo.specs.declared.held.Held.{Held}
use Rattle.jc_index.specs.Layout.{slot_place}
use Rattle.jc_index.specs.Spelling.{IsCoded, words_of_slot}
use Rattle.jc_index.specs.Batches.{placed_at, shown_by_write}
use Rattle.jc_index.proofs.Changing.{batch_more, any_default}
use Rattle.jc_index.proofs.change.batch_of.Goals as goal

pub loop-i-preserved : goal.loop-i-preserved
loop-i-preserved c =
    let ws = c.args.writes.now in
    let i = c.loop-i.i in
    let d : ℕ × Option Held = (0, None) in
    let inside : i < length ws = c.loop-i-test.true in (
      c.push_slot.ensures.0 ∙ ((λ j. c.loop-i.invariant.0 j ++ placed_at (slot_place (any_default ws i c.index-writes-i.result d inside j).0) ((c.words_of_slot.ensures.same ∙ ap (λ (w : ℕ × Option Held). words_of_slot (shown_by_write w)) (any_default ws i _ d inside)) j)) ∙ sym (batch_more ws i d inside)),
      omega (arith, c.push_slot.ensures.1, c.loop-i.invariant.1),
      λ k e few. dite (ℕ_discrete k i)
          (λ is. subst (λ (n : ℕ). IsCoded (shown_by_write (get_or ws n e))) (sym is) (subst (λ (w : ℕ × Option Held). IsCoded (shown_by_write w)) (any_default ws i _ e inside) c.words_of_slot.ensures.coded))
          (λ not. c.loop-i.invariant.2 k e (omega arith)),
    )
