use Rattle.std.proofs.Common.{arith}
use Rattle.jc_runner.proofs.Pushed.{more_named, all_named}
use Rattle.jc_runner.proofs.callbacks.named.all_hooks.Goals as goal

pub loop-i-preserved : goal.loop-i-preserved
loop-i-preserved c =
    more_named c.args.caches.now c.args.kinds.now c.loop-i.i c.index-caches-i.result c.index-kinds-i.result c.in_ok-hooks_of.field-0 c.loop-i.hooks.items c.push.new.self.items
    (omega (arith, c.loop-i-test.true)) (omega (arith, c.loop-i-test.true, c.requires)) c.index-caches-i.is c.index-kinds-i.is c.in_ok-hooks_of.ensures c.loop-i.invariant c.in_ok-push.ensures.items

pub returns : goal.returns
returns c = all_named c.args.caches.now c.args.kinds.now c.loop-i.i c.loop-i.hooks.items (omega (arith, c.loop-i-test.false)) c.loop-i.invariant
