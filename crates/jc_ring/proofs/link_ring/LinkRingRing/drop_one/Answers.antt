use Rattle.std.proofs.Common.{length, ap, arith}
use Rattle.jc_ring.specs.Links.{linked_list}
use Rattle.jc_ring.proofs.Laws.{length-without}
use Rattle.jc_ring.proofs.LinkedRing.{list-is, own, row_below, previous_within, next_within, dropped}
use Rattle.jc_ring.proofs.link_ring.LinkRingRing.drop_one.Goals as goal

pub index-before-requires : goal.index-before-requires
index-before-requires c =
    let s = c.args.self.now in
    omega (arith, row_below s.linked c.args.row c.requires, s.linked.previous_size, s.previous.ok.0)

pub index-behind-requires : goal.index-behind-requires
index-behind-requires c =
    let s = c.args.self.now in
    omega (arith, row_below s.linked c.args.row c.requires, s.linked.next_size, s.next.ok.0)

pub index_mut-requires : goal.index_mut-requires
index_mut-requires c =
    let s = c.args.self.now in
    omega (arith, previous_within s.linked c.args.row c.index-before.result.now c.requires c.index-before.ensures, s.linked.next_size, s.next.ok.0)

pub index_mut-requires-2 : goal.index_mut-requires-2
index_mut-requires-2 c =
    let s = c.args.self.now in
    omega (arith, next_within s.linked c.args.row c.index-behind.result.now c.requires c.index-behind.ensures, s.linked.previous_size, s.previous.ok.0)

pub invariant_of-self : goal.invariant_of-self
invariant_of-self c = record {
  linked = own (dropped c.args.self.now.linked c.args.row c.index-before.result.now c.index-behind.result.now c.requires c.index-before.ensures c.index-behind.ensures);
}

pub returns-clause-dropped : goal.returns-clause-dropped
returns-clause-dropped c =
    list-is (dropped c.args.self.now.linked c.args.row c.index-before.result.now c.index-behind.result.now c.requires c.index-before.ensures c.index-behind.ensures)

pub returns-clause-one : goal.returns-clause-one
returns-clause-one c =
    let s = c.args.self.now in
    let list = list-is (dropped s.linked c.args.row c.index-before.result.now c.index-behind.result.now c.requires c.index-before.ensures c.index-behind.ensures) in
    omega (arith, ap length list, length-without (linked_list s.next.items s.used.items s.limit) c.args.row s.linked.apart c.requires)
