use Rattle.std.proofs.Common.{arith}
use Rattle.std.proofs.lemmas.Grind.{common_steps}
use Rattle.jc_ops.proofs.state.CacheState.holds.Goals as goal

pub returns-in-None : goal.returns-in-None
returns-in-None g c = grind (arith, common_steps, rw c.in-None.is at c.find.ensures.found)

pub returns-in-Some : goal.returns-in-Some
returns-in-Some g c = let x = c.in-Some.ensures.found in grind (arith, common_steps, x.1.found, x.1.there)
