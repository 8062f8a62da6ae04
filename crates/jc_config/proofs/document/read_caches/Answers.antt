use Rattle.std.proofs.Common.{arith}
use Rattle.jc_config.proofs.Loops.{behind_more}
use Rattle.jc_config.proofs.document.read_caches.Goals as goal

pub loop-i-preserved : goal.loop-i-preserved
loop-i-preserved c =
    rw c.in_ok-push.ensures.items (behind_more c.args.tables.now c.loop-i.i c.index-tables-i.result c.loop-i.caches.items c.in_ok-cache.cache _ (omega arith) c.index-tables-i.is c.in_ok-cache.ensures c.loop-i.invariant)
