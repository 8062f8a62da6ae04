use Rattle.std.proofs.Common.{◌≡◌, take}
use Rattle.jc_shards.specs.Dealing.{in_turn}
use Rattle.jc_shards.proofs.shard_map.ShardMap.in_turn.Given as goal

-- the names so far go in turn
abbrev pub invariant-loop-config : goal.invariant-loop-config
invariant-loop-config l = l.dealing ≡ in_turn l.fn.seed (take l.config-index l.configs)
