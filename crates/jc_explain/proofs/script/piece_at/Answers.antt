use Rattle.std.proofs.Common.{◌∙◌, arith}
use Rattle.jc_explain.proofs.Pieces.{passed}
use Rattle.jc_explain.proofs.script.piece_at.Goals as goal

pub loop-i-preserved : goal.loop-i-preserved
loop-i-preserved c =
    c.loop-i.invariant ∙ passed c.loop-i.i c.saturating_sub-place.result c.loop-i.i c.as_slice-piece-items.result.now (omega (arith, c.loop-i-test.true)) c.if-i-place.false
