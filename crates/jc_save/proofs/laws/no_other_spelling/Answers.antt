use Rattle.jc_save.proofs.Whole.{only_saved}
use Rattle.jc_save.proofs.laws.no_other_spelling.Goals as goal

pub returns : goal.returns
returns c = only_saved
