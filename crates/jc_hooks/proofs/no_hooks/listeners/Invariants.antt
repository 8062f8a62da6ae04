use Rattle.std.proofs.Common.{◌≡◌, length}
use Rattle.jc_hooks.proofs.no_hooks.listeners.Given as goal

abbrev pub invariant-loop : goal.invariant-loop
invariant-loop l = length l.listeners.items ≡ l.counter
