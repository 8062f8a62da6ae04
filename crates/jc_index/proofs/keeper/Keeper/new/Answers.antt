use Rattle.jc_index.proofs.Rolling.{opens}
use Rattle.jc_index.proofs.keeper.Keeper.new.Goals as goal

pub of_words-requires : goal.of_words-requires
of_words-requires g c = opens
