use Rattle.std.proofs.Common.{arith}
use Rattle.jc_config.proofs.Duplicates.{seen_again, seen_more}
use Rattle.jc_config.proofs.totals.first_duplicate.Goals as goal

pub returns-then-not-is_new : goal.returns-then-not-is_new
returns-then-not-is_new c =
    seen_again c.loop-i.names c.loop-i.i c.args.caches.now c.text.result c.index-caches-i.result c.in_ok-is_new.is_new c.loop-i.invariant (omega arith)
    c.text.ensures.same c.index-caches-i.is c.in_ok-is_new.ensures.added c.if-not-is_new.true

pub loop-i-preserved : goal.loop-i-preserved
loop-i-preserved c =
    seen_more c.loop-i.names c.insert.new.self c.loop-i.i c.args.caches.now c.text.result c.index-caches-i.result c.in_ok-is_new.is_new c.loop-i.invariant (omega arith)
    c.text.ensures.same c.index-caches-i.is c.in_ok-is_new.ensures.added c.if-not-is_new.false c.in_ok-is_new.ensures.updates.0
