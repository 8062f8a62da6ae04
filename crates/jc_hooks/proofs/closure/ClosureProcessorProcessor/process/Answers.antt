use Rattle.jc_hooks.proofs.Stated.{verdict_stated}
use Rattle.jc_hooks.proofs.closure.ClosureProcessorProcessor.process.Goals as goal

pub returns : goal.returns
returns g c = record { stated = verdict_stated _ c.args.self.now.answers c.args.alloc c.in_ok-value.value _ c.args.argument _ c.in_ok-value.ensures (λ v e. rw e at c.run.ensures) }
