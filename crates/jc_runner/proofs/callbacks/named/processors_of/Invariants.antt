use Rattle.std.proofs.Common.{◌≡◌, map, take}
use Rattle.jc_runner.specs.Naming.{processor_named}
use Rattle.jc_runner.proofs.callbacks.named.processors_of.Given as goal

abbrev pub invariant-loop-kind : goal.invariant-loop-kind
invariant-loop-kind l = l.processors.items ≡ map processor_named (take l.kind-index l.kinds)
