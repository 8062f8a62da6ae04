use Rattle.std.proofs.Common.{ap, ◌∙◌}
use Rattle.jc_cuckoo.specs.Cells.{rows_in}
use Rattle.jc_cuckoo.proofs.Empty.{rows_none}
use Rattle.jc_locked.proofs.tables.BlankTable.named.Goals as goal

pub returns-clause-empty : goal.returns-clause-empty
returns-clause-empty g c = ap rows_in (c.with_mirror.ensures.rows.0 ∙ c.self.invariant.cells_are) ∙ rows_none 64
