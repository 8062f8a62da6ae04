use Rattle.jc_ops.proofs.Names.{rules}
use Rattle.jc_ops.proofs.step.KeyStep.start.Goals as goal

pub returns-in-Some-clause-next : goal.returns-in-Some-clause-next
returns-in-Some-clause-next g c = rw (c.moment.ensures, c.begin-line.ensures.waits.same.moment) (c.begin-line.ensures.asks c.in-Some.request (search rules))

pub returns-in-None-clause-spends : goal.returns-in-None-clause-spends
returns-in-None-clause-spends g c = c.begin-line.ensures.spends _ c.end.ensures.spends
