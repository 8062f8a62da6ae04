use Rattle.std.proofs.Common.{◌<◌, subst, sym}
use Rattle.std.specs.HashMap.{spare}
use Rattle.jc_rows.specs.Listed.{Listed}
use Rattle.jc_rows.proofs.Found.{put_found, at_ok}
use Rattle.jc_rows.proofs.list_rows.ListRowsRows.put.Goals as goal

pub returns-clause-put : goal.returns-clause-put
returns-clause-put c =
    let room : 0 < spare c.self.inside.rows = subst (λ (table : Listed). 0 < table.spare) (sym c.self.view_is) c.requires.room in
    rw (← c.self.view_is) (put_found c.self.inside.rows.entries c.insert.new.self.entries (c.args.id, c.args.key) (c.args.row, c.args.expiry) (at_ok c.insert.result _ c.insert.ensures.updates (c.insert.ensures.succeeds room)).0)
