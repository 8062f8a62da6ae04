use Rattle.std.proofs.Common.{rules, ap, ◌∙◌}
use Rattle.atomic_table.specs.Table.{Me}
use Rattle.jc_index.specs.declared.board.View.{View}
use Rattle.jc_index.specs.Stripes.{IsVersionOpened, desk, desk_of}
use Rattle.jc_index.proofs.Opening.{changes_next, opened_again}
use Rattle.jc_index.proofs.stroke.open_all.Goals as goal

pub loop-i-preserved : goal.loop-i-preserved
loop-i-preserved g c =
    let was = c.loop-i.invariant in (
      search rules,
      search rules,
      c.open_one.ensures.view ∙ ap (λ (m : Me (Unit {0}) (View g.row.L.Denot)). (record m.0 { role = desk c.open_one.new.versions (desk_of m.0).words }, m.1)) was.2,
      changes_next IsVersionOpened opened_again c.args.stripes.now c.args.versions.now _ c.open_one.new.versions c.loop-i.i (search rules) was.3 c.open_one.ensures.one c.open_one.ensures.others,
    )
