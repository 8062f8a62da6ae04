use Rattle.std.proofs.Common.{take}
use Rattle.jc_hooks.specs.declared.no_hooks.NoHooks.{NoHooks as Silent}
use Rattle.jc_hooks.specs.Suits.{AllSuit}
use Rattle.jc_shards.proofs.opening.hooks_of.Given as goal

abbrev pub invariant-loop-config : goal.invariant-loop-config
invariant-loop-config l = AllSuit (λ (p : Silent). p.wants) (take l.config-index l.configs) l.hooks.items
