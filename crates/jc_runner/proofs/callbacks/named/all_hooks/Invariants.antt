use Rattle.std.proofs.Common.{◌++◌, List, drop}
use Rattle.jc_runner.specs.Naming.{ProgramHooks, AllHooksNamed}
use Rattle.jc_runner.proofs.callbacks.named.all_hooks.Given as goal

-- with the callbacks of the caches that are left it is all of them
abbrev pub invariant-loop-i : goal.invariant-loop-i
invariant-loop-i l = (rest : List ProgramHooks) → AllHooksNamed (drop l.i l.fn.caches) (drop l.i l.fn.kinds) rest → AllHooksNamed l.fn.caches l.fn.kinds (l.hooks.items ++ rest)
