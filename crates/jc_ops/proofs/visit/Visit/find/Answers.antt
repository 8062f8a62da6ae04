use Rattle.jc_ops.proofs.TiedKeys.{tied_keys}
use Rattle.jc_ops.proofs.visit.Visit.find.Goals as goal

pub returns-clause-apart : goal.returns-clause-apart
returns-clause-apart g c = rw (← c.self.view_is) (tied_keys _ _ _ c.self.invariant.tied)
