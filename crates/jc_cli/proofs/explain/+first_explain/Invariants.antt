use Rattle.std.proofs.Common.{length}
use Rattle.jc_cli.proofs.explain.+first_explain.Given as goal

abbrev pub decreases-first_explain : goal.decreases-first_explain
decreases-first_explain l = length l.words.now
