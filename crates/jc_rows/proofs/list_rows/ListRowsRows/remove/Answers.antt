use Rattle.std.proofs.Common.{ap, sym, ◌∙◌}
use Rattle.std.specs.Option.{option_map}
use Rattle.jc_rows.proofs.Found.{get_found, removed_found}
use Rattle.jc_rows.proofs.list_rows.ListRowsRows.remove.Goals as goal
use Rattle.jc_rows.proofs.list_rows.ListRowsRows.remove.Goals.{in-Some, in-None}

pub returns-clause-removed : goal.returns-clause-removed
returns-clause-removed c = rw (← c.self.view_is) (removed_found c.self.inside.rows.entries c.remove.new.self.entries (c.args.id, c.args.key.now) c.remove.ensures.updates.0)

pub returns-clause-found : goal.returns-clause-found
returns-clause-found c = rw (← c.self.view_is) (elim c.match-remove.branch [
  | in-Some w ↦ w.result-is ∙ ap (option_map (λ row. row.0)) (sym w.in-Some.is ∙ (c.remove.ensures.value ∙ sym (get_found c.self.inside.rows.entries (c.args.id, c.args.key.now))))
  | in-None w ↦ w.result-is ∙ ap (option_map (λ row. row.0)) (sym w.in-None.is ∙ (c.remove.ensures.value ∙ sym (get_found c.self.inside.rows.entries (c.args.id, c.args.key.now))))
])
