use Rattle.jc_ops.proofs.Found.{found_row}
use Rattle.jc_ops.proofs.state.CacheState.find.Goals as goal

pub returns : goal.returns
returns g c = record { found = rw (← c.self.view_is) (found_row _ c.args.key.now _ c.find.result (rw (← c.self.view_is) at c.requires.tied) c.find.ensures) }
