use Rattle.std.proofs.Common.{◌≡◌, map, take}
use Rattle.jc_config.specs.Limits.{names_of_caches}
use Rattle.jc_runner.proofs.explaining.names_of.Given as goal

-- so far the names of the caches up to this one
abbrev pub invariant-loop-cache : goal.invariant-loop-cache
invariant-loop-cache l = map (λ name. name.now) l.names.items ≡ names_of_caches (take l.cache-index l.cache-items)
