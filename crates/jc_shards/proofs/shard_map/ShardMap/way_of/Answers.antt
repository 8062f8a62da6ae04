use Rattle.std.proofs.Common.{arith, ◌∙◌}
use Rattle.jc_shards.specs.Dealing.{spread_of}
use Rattle.jc_shards.proofs.Spreads.{whole-way}
use Rattle.jc_shards.proofs.shard_map.ShardMap.way_of.Goals as goal

pub returns-else-levels-lt32 : goal.returns-else-levels-lt32
returns-else-levels-lt32 c = c.spread_of-spread.ensures ∙ whole-way (spread_of c.args.self.now c.args.name.now) c.args.levels (omega arith) (omega (arith, c.if-levels-lt32.false))
