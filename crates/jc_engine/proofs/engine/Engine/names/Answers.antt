use Rattle.std.proofs.Common.{◌∙◌}
use Rattle.jc_engine.proofs.Listed.{names_listed}
use Rattle.jc_engine.proofs.engine.Engine.names.Goals as goal

pub returns : goal.returns
returns g c = c.names.ensures ∙ names_listed c.self.view_is c.self.invariant
