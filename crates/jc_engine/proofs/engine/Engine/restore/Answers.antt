use Rattle.jc_engine.proofs.Listed.{may_come}
use Rattle.jc_engine.proofs.engine.Engine.restore.Goals as goal

pub admit_saved-requires-clause-may : goal.admit_saved-requires-clause-may
admit_saved-requires-clause-may g c = may_come c.args.self.now c.in-Ok.saved.config c.in_default.ensures
