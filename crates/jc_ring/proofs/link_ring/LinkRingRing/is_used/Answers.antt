use Rattle.std.proofs.Common.{arith}
use Rattle.jc_ring.proofs.LinkedRing.{row_below, bit_read}
use Rattle.jc_ring.proofs.link_ring.LinkRingRing.is_used.Goals as goal

pub index-requires : goal.index-requires
index-requires c =
    let s = c.args.self.now in
    omega (arith, row_below s.linked c.args.row c.requires, s.linked.used_size, s.used.ok.0)

pub returns : goal.returns
returns c = bit_read c.args.self.now.linked c.args.row c.index.result.now c.requires c.index.ensures
