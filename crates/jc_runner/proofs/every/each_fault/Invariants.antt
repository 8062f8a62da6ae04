use Rattle.std.proofs.Common.{string_bytes}
use Rattle.jc_runner.specs.Every.{TellsAlone}
use Rattle.jc_runner.proofs.Joined.{Completes}
use Rattle.jc_runner.proofs.every.each_fault.Given as goal

abbrev pub invariant-loop-fault : goal.invariant-loop-fault
invariant-loop-fault l = Completes (TellsAlone l.origin.path.now l.origin.kind l.origin.config.now l.origin.script.now l.explain) l.faults l.fault-index (string_bytes l.text)
