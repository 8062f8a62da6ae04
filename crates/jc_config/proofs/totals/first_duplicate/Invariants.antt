use Rattle.jc_config.proofs.Duplicates.{Seen}
use Rattle.jc_config.proofs.totals.first_duplicate.Given as goal

abbrev pub invariant-loop-i : goal.invariant-loop-i
invariant-loop-i l = Seen l.names l.i l.caches
