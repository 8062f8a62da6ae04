use Rattle.std.proofs.Common.{arith, sym, ◌∙◌}
use Rattle.std.proofs.lemmas.Bool.Decides.{nat_tests}
use Rattle.jc_shards.specs.Dealing.{spread_of}
use Rattle.jc_shards.proofs.Spreads.{never-right}
use Rattle.jc_shards.proofs.shard_map.ShardMap.is_right.Goals as goal

pub returns-else-level-lt32 : goal.returns-else-level-lt32
returns-else-level-lt32 c = grind (arith, nat_tests) ∙ sym (never-right (spread_of c.args.self.now c.args.name.now) c.args.level (omega arith) (omega (arith, c.if-level-lt32.false)))
