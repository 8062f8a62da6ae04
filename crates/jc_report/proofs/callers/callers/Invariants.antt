use Rattle.std.proofs.Common.{take}
use Rattle.jc_report.specs.Callers.{AreLeft}
use Rattle.jc_report.proofs.callers.callers.Given as goal

abbrev pub invariant-loop-entry : goal.invariant-loop-entry
invariant-loop-entry l = AreLeft l.callers (take l.entry-index l.entries)
