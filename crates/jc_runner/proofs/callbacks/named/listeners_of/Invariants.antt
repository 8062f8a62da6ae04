use Rattle.std.proofs.Common.{◌≡◌, ◌≤◌, replicate}
use Rattle.jc_runner.specs.Naming.{fresh_listener}
use Rattle.jc_runner.proofs.callbacks.named.listeners_of.Given as goal

abbrev pub invariant-loop : goal.invariant-loop
invariant-loop l = (l.listeners.items ≡ replicate l.counter fresh_listener) × (l.counter ≤ l.count)
