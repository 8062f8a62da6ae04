use Rattle.std.proofs.Common.{◌≡◌, ◌≤◌, replicate}
use Rattle.jc_threads.specs.Dealing.{idle_share}
use Rattle.jc_threads.proofs.dealing.idle_workers.Given as goal

abbrev pub invariant-loop : goal.invariant-loop
invariant-loop g l = (l.crew.items ≡ replicate l.counter idle_share) × (l.counter ≤ l.workers)
