use Rattle.std.proofs.Common.{◌≡◌, ◌+◌, drop}
use Rattle.jc_config.specs.Limits.{total_capacity}
use Rattle.jc_config.proofs.settings.fit_into.Given as goal

-- the rows of all caches are those counted so far and those of the caches that are left
abbrev pub invariant-loop-cache : goal.invariant-loop-cache
invariant-loop-cache l = total_capacity l.caches + l.left ≡ l.rows + total_capacity (drop l.cache-index l.caches)
