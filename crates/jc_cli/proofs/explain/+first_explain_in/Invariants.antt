use Rattle.std.proofs.Common.{length}
use Rattle.jc_cli.proofs.explain.+first_explain_in.Given as goal

abbrev pub decreases-first_explain_in : goal.decreases-first_explain_in
decreases-first_explain_in l = length l.words.now
