use Rattle.std.proofs.Common.{◌≡◌, ◌++◌}
use Rattle.std.specs.List.{flat_map}
use Rattle.jc_threads.specs.Batches.{calls_in_batches}
use Rattle.jc_threads.specs.Dealing.{WorkerMakes}
use Rattle.jc_threads.proofs.worker.make_all.Given as goal

abbrev pub invariant-loop-batch : goal.invariant-loop-batch
invariant-loop-batch g l = record {
  all : calls_in_batches (l.yielded ++ l.batch-iterator.rest.items) l.last.items ≡ l.fn.lines;
  made : WorkerMakes g.N.Name.stated l.workers (flat_map (λ calls. calls) l.yielded) l.initial.sessions l.sessions;
}
