use Rattle.std.proofs.Common.{length}
use Rattle.jc_ops.proofs.Walk.{rows_from}
use Rattle.jc_engine.proofs.Saved.{HasWritten}
use Rattle.jc_engine.proofs.saving.write.Given as goal

-- the head and the rows so far are written
abbrev pub invariant-rows : goal.invariant-rows
invariant-rows g l = record { written : HasWritten l.state.kept l.next l.at l.fn.out l.out }

abbrev pub decreases-rows : goal.decreases-rows
decreases-rows g l = length (rows_from l.next l.state.kept.cells)
