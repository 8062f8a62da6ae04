use Rattle.std.proofs.Common.{[]}
use Rattle.jc_save.specs.Reading.{rows_at}
use Rattle.jc_save.proofs.Loops.{rows_more, rows_twice, rows_stop, rows_done}
use Rattle.jc_save.proofs.rows.rows_at.Goals as goal

pub returns-in-Err : goal.returns-in-Err
returns-in-Err c = rows_stop c.loop.keys c.loop.rows.items c.args.count c.loop.counter c.loop.rest.now (rows_at [] c.args.count c.args.bytes.now) c.loop.invariant c.in-Err.stop c.loop-test.true c.in-Err.ensures

pub returns-then-not-is_new : goal.returns-then-not-is_new
returns-then-not-is_new c =
    rw c.flawed.ensures (rows_twice c.loop.keys c.loop.rows.items c.args.count c.loop.counter c.loop.rest.now (rows_at [] c.args.count c.args.bytes.now) c.loop.invariant c.in-Ok.read.0 c.in_ok-is_new.is_new c.in-Ok.read.1.now
    c.loop-test.true c.in-Ok.ensures c.in_ok-is_new.ensures.added c.if-not-is_new.true)

pub loop-preserved : goal.loop-preserved
loop-preserved c =
    rw c.in_ok-push.ensures.items (rows_more c.loop.keys c.loop.rows.items c.args.count c.loop.counter c.loop.rest.now (rows_at [] c.args.count c.args.bytes.now) c.loop.invariant c.insert.new.self c.in-Ok.read.0 c.in_ok-is_new.is_new c.in-Ok.read.1.now
    c.loop-test.true c.in-Ok.ensures c.in_ok-is_new.ensures.added c.if-not-is_new.false c.in_ok-is_new.ensures.updates.0)

pub returns : goal.returns
returns c = rows_done c.loop.keys c.loop.rows.items c.args.count c.loop.counter c.loop.rest.now (rows_at [] c.args.count c.args.bytes.now) c.loop.invariant c.loop-test.false
