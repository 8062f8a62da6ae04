use Rattle.std.proofs.Common.{◌≡◌, take}
use Rattle.jc_index.specs.Stripes.{Changes, IsVersionShut, desk, last_of}
use Rattle.jc_index.proofs.stroke.shut_all.Given as goal

abbrev pub invariant-loop-i : goal.invariant-loop-i
invariant-loop-i g l = (l.seat.table_id ≡ l.fn.seat.table_id) × (l.seat.id ≡ l.fn.seat.id)
    × (l.seat.me ≡ (record l.fn.seat.me.0 { role = desk l.versions (last_of l.fn.seat.me.0.front) }, l.fn.seat.me.1)) × Changes IsVersionShut (take l.i l.stripes) l.fn.versions l.versions
