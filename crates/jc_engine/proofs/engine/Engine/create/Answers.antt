use Rattle.jc_engine.proofs.Listed.{may_come}
use Rattle.jc_engine.proofs.engine.Engine.create.Goals as goal

pub admit-requires : goal.admit-requires
admit-requires g c = may_come c.args.self.now c.args.config c.in_default.ensures
