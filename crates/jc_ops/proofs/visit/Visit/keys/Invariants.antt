use Rattle.std.proofs.Common.{◌≡◌, ◌-◌, length}
use Rattle.std.specs.Vec.{vec_capacity}
use Rattle.jc_ops.proofs.Walk.{WalkedTo}
use Rattle.jc_ops.proofs.visit.Visit.keys.Given as goal

abbrev pub invariant-rows : goal.invariant-rows
invariant-rows g l = record {
  walked : WalkedTo l.cache.kept.cells l.keys.items l.next;
  room : vec_capacity l.keys ≡ length l.cache.kept.cells;
}

abbrev pub decreases-rows : goal.decreases-rows
decreases-rows g l = length l.cache.kept.cells - length l.keys.items
