use Rattle.jc_shards.proofs.sharded.ShardedManager+A+B+C+D.end.Goals as goal

pub returns-in-None-clause-ended : goal.returns-in-None-clause-ended
returns-in-None-clause-ended g c = c.open_call.ensures.none c.in-None.is
