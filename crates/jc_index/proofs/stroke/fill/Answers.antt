use Rattle.std.proofs.Common.{rules, ap, sym, ◌∙◌, get_or, set, List, ℕ}
use Rattle.atomic_table.specs.Table.{Me}
use Rattle.jc_index.specs.declared.board.View.{View}
use Rattle.jc_index.specs.Stripes.{desk, desk_of}
use Rattle.jc_index.proofs.Opening.{set_all-more}
use Rattle.jc_index.proofs.stroke.fill.Goals as goal

abbrev after : {L : Type 0} → Me (Unit {0}) (View L) → List ℕ → Me (Unit {0}) (View L)
after m words = (record m.0 { role = desk (desk_of m.0).versions words }, m.1)

pub loop-i-preserved : goal.loop-i-preserved
loop-i-preserved g c =
    let i = c.loop-i.i in
    let x = get_or c.args.writes.now i (0, 0) in
    let first = c.args.seat.now.me in (
      search rules,
      search rules,
      c.set.ensures.view ∙ (ap (λ (m : Me (Unit {0}) (View g.row.L.Denot)). after m (set (desk_of m.0).words x.0 x.1)) c.loop-i.invariant.2
          ∙ ap (after first) (sym (set_all-more (desk_of first.0).words c.args.writes.now i (0, 0) (search rules)))),
    )
