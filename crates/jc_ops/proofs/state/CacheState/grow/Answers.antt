use Rattle.jc_ops.proofs.Growing.{apart-cells}
use Rattle.jc_ops.proofs.state.CacheState.grow.Goals as goal

pub move_rows-requires-clause-apart : goal.move_rows-requires-clause-apart
move_rows-requires-clause-apart g c = apart-cells _ _ (rw (← c.self.view_is) at c.requires.apart)
