use Rattle.std.proofs.Common.{◌≡◌, map, take}
use Rattle.jc_hooks.specs.declared.no_hooks.NoHooks.{NoHooks as Silent}
use Rattle.jc_hooks.proofs.no_hooks.processors.Given as goal

abbrev pub invariant-loop-wants : goal.invariant-loop-wants
invariant-loop-wants l = map (λ (p : Silent). p.wants) l.processors.items ≡ take l.wants-index l.wanted
