use Rattle.std.proofs.Common.{◌≡◌, take}
use Rattle.jc_index.specs.Stripes.{desk, desk_of, set_all}
use Rattle.jc_index.proofs.stroke.fill.Given as goal

abbrev pub invariant-loop-i : goal.invariant-loop-i
invariant-loop-i g l = (l.seat.table_id ≡ l.fn.seat.table_id) × (l.seat.id ≡ l.fn.seat.id)
    × (l.seat.me ≡ (record l.fn.seat.me.0 { role = desk (desk_of l.fn.seat.me.0).versions (set_all (desk_of l.fn.seat.me.0).words (take l.i l.writes)) }, l.fn.seat.me.1))
