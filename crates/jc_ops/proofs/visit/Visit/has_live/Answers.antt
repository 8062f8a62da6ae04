use Rattle.std.proofs.Common.{arith}
use Rattle.std.proofs.lemmas.Grind.{common_steps}
use Rattle.jc_ops.proofs.StateNames.{holds, record_of}
use Rattle.jc_ops.proofs.visit.Visit.has_live.Goals as goal

pub returns-in-None : goal.returns-in-None
returns-in-None g c = λ key found. grind (arith, common_steps, rw c.in-None.is at found)

pub returns-in-Some : goal.returns-in-Some
returns-in-Some g c = λ key found. (let x = rw c.in-Some.is at found in rw (x.1.found, holds) (c.is_live.ensures (record_of x.0) x.1.there))
