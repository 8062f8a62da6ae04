use Rattle.std.proofs.Common.{◌≡◌, ◌≤◌, ◌+◌, drop}
use Rattle.jc_engine.specs.Caches.{lives_of}
use Rattle.jc_replay.specs.Hits.{hits_from}
use Rattle.jc_replay.proofs.replaying.count_hits.Given as goal

-- the hits so far, and then those of the keys that are left, are all
abbrev pub invariant-loop-key : goal.invariant-loop-key
invariant-loop-key g l = record {
  counted : l.hits + hits_from (lives_of l.engine) (drop l.key-index l.keys) ≡ hits_from (lives_of l.initial.engine) l.keys;
  few : l.hits ≤ l.key-index;
}
