use Rattle.std.proofs.Common.{◌≡◌, ◌≤◌, ◌+◌, length, map, drop}
use Rattle.jc_replay.specs.Trace.{keys_from, with_front}
use Rattle.jc_replay.proofs.trace.read_lines.Given as goal

-- the keys so far, and then those that are left, are all
abbrev pub invariant-loop-i : goal.invariant-loop-i
invariant-loop-i l = record {
  exact : with_front l.keys.items (keys_from (l.i + 1) (map (λ line. line.now) (drop l.i l.lines))) ≡ keys_from 1 (map (λ line. line.now) l.lines);
  few : length l.keys.items ≤ l.i;
}
