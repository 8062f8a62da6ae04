use Rattle.std.proofs.Common.{length}
use Rattle.jc_explain.proofs.twice.+twice_among.Given as goal

abbrev pub decreases-twice_among : goal.decreases-twice_among
decreases-twice_among l = length l.items.now
