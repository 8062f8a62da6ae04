use Rattle.std.proofs.Common.{length}
use Rattle.jc_cli.proofs.note.+capacities_in.Given as goal

abbrev pub decreases-capacities_in : goal.decreases-capacities_in
decreases-capacities_in l = length l.words.now
