use Rattle.std.proofs.Common.{sym, ◌∙◌}
use Rattle.jc_rows.proofs.Found.{len_found}
use Rattle.jc_rows.proofs.list_rows.ListRowsRows.len.Goals as goal

pub returns : goal.returns
returns c = rw (← c.self.view_is) (c.len.ensures.len ∙ sym (len_found c.self.inside.rows.entries c.len.ensures.unique))
