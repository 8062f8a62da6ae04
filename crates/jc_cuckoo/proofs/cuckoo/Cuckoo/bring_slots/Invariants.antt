use Rattle.std.proofs.Common.{◌-◌, ◌*◌, ◌≤◌}
use Rattle.jc_cuckoo.specs.Double.{HasSlots}
use Rattle.jc_cuckoo.proofs.cuckoo.Cuckoo.bring_slots.Given as goal

abbrev pub invariant-slots : goal.invariant-slots
invariant-slots g l = record {
  slots : HasSlots l.self l.at l.twice;
  room : l.initial.twice.room ≤ l.twice.room;
  last : l.at ≤ 4 * l.self.buckets;
}

abbrev pub decreases-slots : goal.decreases-slots
decreases-slots g l = 4 * l.self.buckets - l.at
