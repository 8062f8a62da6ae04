use Rattle.std.proofs.Common.{◌≡◌, ◌-◌, ◌+◌, ◌*◌, ◌≤◌, ◌++◌, length, map, take, Some}
use Rattle.std.specs.Vec.{vec_len, vec_capacity}
use Rattle.jc_cuckoo.proofs.cuckoo.Cuckoo.stash_rows.Given as goal

abbrev pub invariant-stash : goal.invariant-stash
invariant-stash g l = record {
  rows : take l.at l.self.cells ≡ take (4 * l.self.buckets) l.self.cells ++ map (λ row. Some row.1) l.rows.items;
  len : vec_len l.rows + 4 * l.self.buckets ≡ l.at;
  room : length l.self.cells ≤ vec_capacity l.rows + 4 * l.self.buckets;
  last : l.at ≤ length l.self.cells;
}

abbrev pub decreases-stash : goal.decreases-stash
decreases-stash g l = length l.self.cells - l.at
