use Rattle.std.proofs.Common.{◌∙◌, arith}
use Rattle.std.proofs.lemmas.Grind.{common_steps}
use Rattle.jc_ops.proofs.Cells.{length-turned_cells}
use Rattle.jc_ops.proofs.Going.{hand-passes}
use Rattle.jc_ops.proofs.Ties.{Tied-turned}
use Rattle.jc_ops.proofs.state.CacheState.turn_hand.Goals as goal

pub loop-row-preserved : goal.loop-row-preserved
loop-row-preserved g c =
    let i = c.loop-row.invariant in record {
      hand = rw c.turn.ensures (hand-passes _ _ _ _ _ c.in-Some.ensures c.record.ensures (grind (arith, common_steps)) ∙ i.hand);
      tied = λ m t. rw c.turn.ensures (Tied-turned m _ _ (i.tied m t));
      many = rw c.turn.ensures (length-turned_cells _ ∙ i.many);
      kept = rw (c.turn.ensures, i.kept);
    }
