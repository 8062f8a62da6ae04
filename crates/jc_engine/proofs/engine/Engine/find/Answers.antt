use Rattle.std.proofs.Common.{sym}
use Rattle.jc_engine.proofs.Places.{within, seen_is}
use Rattle.jc_engine.proofs.engine.Engine.find.Goals as goal

pub returns : goal.returns
returns g c = seen_is (within c.self.view_is c.self.invariant) c.args.id (sym (rw c.number.ensures at c.get.ensures.value))
