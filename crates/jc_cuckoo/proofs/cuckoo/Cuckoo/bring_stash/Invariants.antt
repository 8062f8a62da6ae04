use Rattle.std.proofs.Common.{◌-◌, ◌+◌, ◌*◌, ◌≤◌, length}
use Rattle.jc_cuckoo.specs.Double.{HasStash, with_stash_rows}
use Rattle.jc_cuckoo.proofs.cuckoo.Cuckoo.bring_stash.Given as goal

abbrev pub invariant-stash : goal.invariant-stash
invariant-stash g l = record {
  stash : HasStash g.P.Placer.placing (with_stash_rows l.self l.waiting.items) (4 * l.self.buckets + l.at) l.twice;
  total : l.initial.twice.room + length l.initial.twice.cells ≤ l.twice.room + length l.twice.cells;
  last : l.at ≤ length l.waiting.items;
}

abbrev pub decreases-stash : goal.decreases-stash
decreases-stash g l = length l.waiting.items - l.at
