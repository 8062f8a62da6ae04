use Rattle.std.proofs.Common.{ap, sym, ◌≡◌, ◌∙◌, Some, is_some}
use Rattle.std.specs.FinMap as map
use Rattle.std.specs.Map.{lookup}
use Rattle.std.specs.Option.{option_copied_mut}
use Rattle.jc_rows.specs.Rows.{RowMap}
use Rattle.jc_rows.specs.declared.list_rows.ListRows.TheInside.{Inside}
use Rattle.jc_rows.proofs.Found.{place_eq, expiry_found, no_expiry_found, none_lent}
use Rattle.jc_rows.proofs.list_rows.ListRowsRows.set_expiry.Goals as goal
use Rattle.jc_rows.proofs.list_rows.ListRowsRows.set_expiry.Goals.{in-Some, in_default}

table_of : Inside → RowMap
table_of fields = map.from_entries fields.rows.entries

pub returns-clause-set : goal.returns-clause-set
unfolding table_of
returns-clause-set c = rw (← c.self.view_is) (elim c.match-get_mut.branch [
  | in-Some w ↦ (let found : lookup (place_eq (c.args.id, c.args.key.now)) c.self.inside.rows.entries ≡ Some w.in-Some.row.now = sym c.get_mut.ensures.value ∙ ap option_copied_mut w.in-Some.is in
      let lent = c.get_mut.follows.holds (w.in-Some.row.now.0, c.args.expiry) in
      let updated = lent.3 (ap is_some found) in
      ap table_of w.self-inside-is
      ∙ expiry_found c.self.inside.rows.entries (c.get_mut.follows.lender (w.in-Some.row.now.0, c.args.expiry)).entries (c.args.id, c.args.key.now) w.in-Some.row.now c.args.expiry found updated.0)
  | in_default w ↦ ap table_of w.self-inside-is ∙ (ap (λ m. map.from_entries m.entries) c.get_mut.follows.holds-at-none
      ∙ no_expiry_found c.self.inside.rows.entries (c.args.id, c.args.key.now) c.args.expiry (sym c.get_mut.ensures.value ∙ none_lent c.get_mut.result w.in_default.not-Some))
])
