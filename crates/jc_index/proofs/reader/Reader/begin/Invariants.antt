use Rattle.std.proofs.Common.{◌≡◌, suc, length, take, [], false}
use Rattle.jc_index.specs.Stripes.{glance, stack_of}
use Rattle.jc_index.proofs.reader.Reader.begin.Given as goal

abbrev pub invariant-loop-i : goal.invariant-loop-i
invariant-loop-i g l = (l.self.seat.table_id ≡ l.fn.self.seat.table_id) × (length l.versions ≡ length l.fn.versions)
    × (l.self.seat.me.0 ≡ record l.fn.self.seat.me.0 { role = glance (stack_of (take l.i l.stripes) (take l.i l.versions) []) [] [] false; lookups = suc l.fn.self.seat.me.0.lookups })
