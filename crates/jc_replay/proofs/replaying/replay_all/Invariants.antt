use Rattle.std.proofs.Common.{◌≡◌, map, take}
use Rattle.jc_replay.specs.Hits.{ratio_of}
use Rattle.jc_replay.proofs.replaying.replay_all.Given as goal

abbrev pub invariant-loop-capacity : goal.invariant-loop-capacity
invariant-loop-capacity l = l.ratios.items ≡ map (ratio_of l.keys) (take l.capacity-index l.capacities)
