use Rattle.jc_script.proofs.Ignored.{line_same}
use Rattle.jc_script.proofs.laws.others_are_ignored.Goals as goal

pub returns : goal.returns
returns c lives n op line line' named agree = line_same n line line' op agree named lives
