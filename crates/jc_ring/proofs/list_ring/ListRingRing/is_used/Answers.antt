use Rattle.jc_ring.proofs.Walks.{bit-at}
use Rattle.jc_ring.proofs.list_ring.ListRingRing.is_used.Goals as goal

pub returns : goal.returns
returns c =
    let s = c.args.self.now in
    bit-at s.items.items c.args.row c.place_of-place.result c.index.result.now s.apart c.place_of-place.ensures.within c.place_of-place.ensures.row c.index.ensures
