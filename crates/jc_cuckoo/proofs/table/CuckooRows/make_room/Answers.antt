use Rattle.jc_cuckoo.proofs.Listed.{indexed_same}
use Rattle.jc_cuckoo.proofs.table.CuckooRows.make_room.Goals as goal

pub invariant_of-self-2 : goal.invariant_of-self-2
invariant_of-self-2 g c = rw c.reserve.ensures.items (c.self.invariant.0, indexed_same c.reserve-2.ensures.same c.self.invariant.1)
