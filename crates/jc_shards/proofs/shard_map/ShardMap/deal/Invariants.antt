use Rattle.std.proofs.Common.{◌≡◌, ◌++◌}
use Rattle.jc_shards.specs.Dealing.{of_left, of_right}
use Rattle.jc_shards.proofs.shard_map.ShardMap.deal.Given as goal

abbrev pub invariant-loop-config : goal.invariant-loop-config
invariant-loop-config l = record {
  left : l.left.items ≡ of_left l.self l.level l.yielded;
  right : l.right.items ≡ of_right l.self l.level l.yielded;
  all : l.yielded ++ l.config-iterator.rest.items ≡ l.fn.configs.items;
}
