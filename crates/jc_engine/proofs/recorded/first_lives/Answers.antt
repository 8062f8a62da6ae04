use Rattle.std.proofs.Common.{arith}
use Rattle.jc_engine.proofs.Names.{slice_get_read}
use Rattle.jc_engine.proofs.Recordings.{one_life}
use Rattle.jc_engine.proofs.recorded.first_lives.Goals as goal

pub loop-place-preserved : goal.loop-place-preserved
loop-place-preserved g c = grind (arith, slice_get_read, one_life)
