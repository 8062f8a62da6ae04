use Rattle.std.proofs.Common.{arith}
use Rattle.jc_runner.specs.Naming.{processor_named}
use Rattle.jc_runner.proofs.Pushed.{more_mapped, all_mapped}
use Rattle.jc_runner.proofs.callbacks.named.processors_of.Goals as goal

pub loop-kind-preserved : goal.loop-kind-preserved
loop-kind-preserved c = more_mapped processor_named c.args.kinds.now c.loop-kind.kind-index _ c.loop-kind.processors.items c.push.new.self.items c.processor_of.result (omega (arith, c.loop-kind-test.true)) c.loop-kind.invariant c.processor_of.ensures c.in_ok-push.ensures.items

pub returns : goal.returns
returns c = all_mapped processor_named c.args.kinds.now c.loop-kind.kind-index c.loop-kind.processors.items (omega (arith, c.loop-kind-test.false)) c.loop-kind.invariant
