use Rattle.std.proofs.Common.{nat_eq, take}
use Rattle.indexmap.specs.IndexMap.{get}
use Rattle.jc_report.specs.Report.{AreGrouped}
use Rattle.jc_report.proofs.groups.grouped.Given as goal

abbrev pub invariant-loop-entry : goal.invariant-loop-entry
invariant-loop-entry l = AreGrouped (take l.entry-index l.entries) (get nat_eq l.groups)
