use Rattle.std.proofs.Common.{◌≡◌, ◌++◌}
use Rattle.jc_threads.specs.Dealing.{WorkerMakes}
use Rattle.jc_threads.proofs.worker.make_batch.Given as goal

abbrev pub invariant-loop-line : goal.invariant-loop-line
invariant-loop-line g l = record {
  all : l.yielded ++ l.line-iterator.rest.items ≡ l.fn.lines.items;
  made : WorkerMakes g.N.Name.stated l.workers l.yielded l.initial.sessions l.sessions;
}
