use Rattle.std.proofs.Common.{◌≡◌, map}
use Rattle.jc_config.proofs.read.split.Given as goal

abbrev pub invariant-loop-cache : goal.invariant-loop-cache
invariant-loop-cache l = (l.configs.items ≡ map (λ c. c.config) l.yielded) × (l.hooks.items ≡ map (λ c. c.hooks) l.yielded)
