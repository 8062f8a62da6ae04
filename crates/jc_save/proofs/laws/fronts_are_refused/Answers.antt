use Rattle.jc_save.proofs.Whole.{fronts_refused}
use Rattle.jc_save.proofs.laws.fronts_are_refused.Goals as goal

pub returns : goal.returns
returns c = fronts_refused
