use Rattle.jc_engine.proofs.Moved.{moved_goes_on}
use Rattle.jc_engine.proofs.laws.moved_cache_goes_on.Goals as goal

pub returns : goal.returns
returns c = moved_goes_on
