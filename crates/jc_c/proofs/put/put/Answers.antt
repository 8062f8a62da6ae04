use Rattle.std.proofs.Common.{◌+◌, ◌-◌, length, arith}
use Rattle.jc_save.proofs.Placing.{put_fits, put_cut, put_past}
use Rattle.jc_c.proofs.put.put.Goals as goal

pub returns-then-end-room-clause-out : goal.returns-then-end-room-clause-out
returns-then-end-room-clause-out c =
    rw c.copy_from_slice.ensures.after (put_fits c.args.at (c.args.at + length c.args.bytes.now - c.args.at) c.args.out.now c.args.bytes.now (omega (arith, c.if-end-room.true)) (omega arith))

pub returns-then-at-room-clause-out : goal.returns-then-at-room-clause-out
returns-then-at-room-clause-out c =
    rw c.copy_from_slice-then-at-room.ensures.after (put_cut c.args.at (length c.args.out.now - c.args.at) c.args.out.now c.args.bytes.now (omega (arith, c.if-at-room.true)) (omega (arith, c.if-end-room.false)))

pub returns-else-at-room-clause-out : goal.returns-else-at-room-clause-out
returns-else-at-room-clause-out c = put_past c.args.at c.args.out.now c.args.bytes.now (omega (arith, c.if-at-room.false))
