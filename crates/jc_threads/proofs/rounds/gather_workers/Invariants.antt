use Rattle.std.proofs.Common.{◌≡◌, map, Ok}
use Rattle.jc_threads.proofs.rounds.gather_workers.Given as goal

abbrev pub invariant-loop-result : goal.invariant-loop-result
invariant-loop-result g l = map Ok l.crew.items ≡ l.yielded
