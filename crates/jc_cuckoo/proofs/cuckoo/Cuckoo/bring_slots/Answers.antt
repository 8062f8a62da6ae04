use Rattle.std.proofs.Common.{arith}
use Rattle.jc_cuckoo.proofs.Doubled.{slots_first}
use Rattle.jc_cuckoo.proofs.cuckoo.Cuckoo.bring_slots.Goals as goal

pub slots-init : goal.slots-init
slots-init g c = record {
  slots = slots_first c.args.self.now c.args.twice.now c.requires.placer c.requires.buckets c.requires.empty;
  room = omega arith;
  last = omega arith;
}
