use Rattle.std.proofs.Common.{◌≡◌, ◌≤◌, ◌+◌, ◌++◌, drop, length}
use Rattle.jc_bulk.specs.Entries.{listed}
use Rattle.jc_bulk.proofs.Names.{items_of}
use Rattle.jc_bulk.proofs.entries.entries.Given as goal

abbrev pub invariant-loop-key : goal.invariant-loop-key
invariant-loop-key g l = record {
  listed : l.pairs.items ++ listed l.visit.moment (items_of l.visit.cache.cells) (drop l.key-index l.keys) ≡ listed l.visit.moment (items_of l.visit.cache.cells) l.keys;
  room : length l.keys ≤ l.pairs.spare + l.key-index;
}
