use Rattle.std.proofs.Common.{◌≡◌, ◌+◌, drop}
use Rattle.jc_model.specs.Limits.{most_rows_together}
use Rattle.jc_config.specs.Config.{total_of}
use Rattle.jc_config.proofs.totals.fits_in_all.Given as goal

-- the rows of all caches are those counted so far and those of the caches that are left
abbrev pub invariant-loop-cache : goal.invariant-loop-cache
invariant-loop-cache l = total_of l.caches + l.left ≡ most_rows_together + total_of (drop l.cache-index l.caches)
