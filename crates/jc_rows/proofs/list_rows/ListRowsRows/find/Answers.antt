use Rattle.std.proofs.Common.{ap, sym, ◌∙◌}
use Rattle.std.specs.Option.{option_map}
use Rattle.jc_rows.proofs.Found.{get_found}
use Rattle.jc_rows.proofs.list_rows.ListRowsRows.find.Goals as goal

pub returns-in-None : goal.returns-in-None
returns-in-None c = rw (← c.self.view_is) (ap (option_map (λ row. row.0)) (c.in-None.ensures.value ∙ sym (get_found c.self.inside.rows.entries (c.args.id, c.args.key.now))))

pub returns-in-Some : goal.returns-in-Some
returns-in-Some c = rw (← c.self.view_is) (ap (option_map (λ row. row.0)) (c.in-Some.ensures.value ∙ sym (get_found c.self.inside.rows.entries (c.args.id, c.args.key.now))))
