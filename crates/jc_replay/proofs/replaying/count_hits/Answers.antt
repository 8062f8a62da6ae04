use Rattle.std.proofs.Common.{arith}
use Rattle.jc_engine.specs.Caches.{lives_of}
use Rattle.jc_replay.proofs.Counting.{goes_on, is_done, at_most_one}
use Rattle.jc_replay.proofs.replaying.count_hits.Goals as goal

pub loop-key-preserved : goal.loop-key-preserved
loop-key-preserved g c = record {
  counted = goes_on (lives_of c.loop-key.engine) (lives_of c.meet.new.engine) c.args.keys.now c.loop-key.key-index c.loop-key.hits c.from.result _ c.key-item.result c.in_ok-meet.field-0
      c.loop-key-test.true c.key-item.is c.in_ok-meet.ensures.found c.in_ok-meet.ensures.lives c.from.ensures c.loop-key.invariant.counted;
  few = let more = at_most_one c.in_ok-meet.field-0 in omega (arith, c.loop-key.invariant.few, c.from.ensures, more);
}

pub returns : goal.returns
returns g c = is_done (lives_of c.loop-key.engine) c.args.keys.now c.loop-key.key-index c.loop-key.hits _ c.loop-key-test.false c.loop-key.invariant.counted
