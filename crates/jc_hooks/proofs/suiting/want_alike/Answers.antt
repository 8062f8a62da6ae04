use Rattle.std.proofs.Common.{arith, refl}
use Rattle.jc_hooks.proofs.Wanting.{one_more_wants, all_want}
use Rattle.jc_hooks.proofs.suiting.want_alike.Goals as goal

pub loop-i-preserved : goal.loop-i-preserved
loop-i-preserved g c =
    one_more_wants g.P.Processor.wants c.args.wanted.now c.args.processors.now c.loop-i.i c.index-processors-i.result c.wants_value.result _ (omega arith) (omega arith) c.loop-i.invariant
    c.index-processors-i.is c.wants_value.ensures.stated c.if-wants_value-wanted.false

pub returns : goal.returns
returns g c = (λ _. all_want g.P.Processor.wants c.args.wanted.now c.args.processors.now c.loop-i.i c.if-wanted-processors.false (omega arith) c.loop-i.invariant, λ _. refl)
