use Rattle.std.proofs.Common.{arith}
use Rattle.jc_engine.proofs.Names.{common_steps}
use Rattle.jc_engine.proofs.Listed.{id_listed}
use Rattle.jc_engine.proofs.engine.Engine.cache.Goals as goal

pub returns : goal.returns
returns g c = grind (arith, common_steps, id_listed c.self.view_is c.self.invariant c.args.name.now)

pub returns-in_err-find : goal.returns-in_err-find
returns-in_err-find g c = grind (arith, common_steps, id_listed c.self.view_is c.self.invariant c.args.name.now)
