use Rattle.std.proofs.Common.{sym}
use Rattle.jc_rows.proofs.Laws.{removed_absent}
use Rattle.jc_cuckoo.proofs.table.CuckooRows.remove.Goals as goal

pub returns-in-None-clause-removed : goal.returns-in-None-clause-removed
returns-in-None-clause-removed g c = sym (removed_absent _ _ c.in-None.ensures)
