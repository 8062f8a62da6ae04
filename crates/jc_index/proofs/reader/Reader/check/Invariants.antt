use Rattle.std.proofs.Common.{◌≡◌, true}
use Rattle.jc_index.specs.Stripes.{glance, glance_of, last_of}
use Rattle.jc_index.proofs.Comparing.{Compared}
use Rattle.jc_index.proofs.reader.Reader.check.Given as goal

abbrev pub invariant-loop-i : goal.invariant-loop-i
invariant-loop-i g l = (l.self.seat.table_id ≡ l.initial.self.seat.table_id)
    × (l.self.seat.me.0 ≡ record l.initial.self.seat.me.0 { role = glance (glance_of l.initial.self.seat.me.0).begun (glance_of l.self.seat.me.0).checked (glance_of l.initial.self.seat.me.0).notes true })
    × Compared g.L.Law.group l.stripes l.versions l.i (last_of l.initial.self.seat.me.0.front) (glance_of l.initial.self.seat.me.0).notes (glance_of l.self.seat.me.0).checked l.same
