use Rattle.std.proofs.Common.{[]}
use Rattle.std.proofs.lemmas.Result.{err_from_is_err_and}
use Rattle.jc_save.specs.Reading.{flags_at}
use Rattle.jc_save.proofs.Loops.{flags_more, flags_stop, flags_done}
use Rattle.jc_save.proofs.head.flags_at.Goals as goal

pub returns-in_err-wants : goal.returns-in_err-wants
returns-in_err-wants c =
    let p = err_from_is_err_and c.from_residual.result c.from_residual.ensures.1 in
    rw (p.1, p.2) (flags_stop c.in_err-wants.field-0.0 c.loop.flags.items c.args.count c.loop.counter c.loop.rest.now (flags_at [] c.args.count c.args.bytes.now) c.loop-test.true c.in_err-wants.ensures c.loop.invariant)

pub loop-preserved : goal.loop-preserved
loop-preserved c =
    rw c.in_ok-push.ensures.items (flags_more c.loop.flags.items c.args.count c.loop.counter c.loop.rest.now c.in_ok-wants.after.now c.in_ok-wants.wants (flags_at [] c.args.count c.args.bytes.now) c.loop-test.true c.in_ok-wants.ensures c.loop.invariant)

pub returns : goal.returns
returns c = flags_done c.loop.flags.items c.args.count c.loop.counter c.loop.rest.now (flags_at [] c.args.count c.args.bytes.now) c.loop-test.false c.loop.invariant
