use Rattle.std.proofs.Common.{◌≡◌, length, refl}
use Rattle.jc_save.specs.Spelling.{row_front}
use Rattle.jc_save.proofs.Written.{row_put, row_place}
use Rattle.jc_save.proofs.saving.put_row.Goals as goal

pub returns-clause-place : goal.returns-clause-place
returns-clause-place c =
    let is : c.bytes.result.now ≡ row_front c.args.marked.expiry c.args.marked.used c.args.key.now (length c.args.value.now) = rw (c.bytes.ensures.same, c.row_front_of-front.ensures.front, c.bytes-bytes.ensures.same) refl in
    rw (c.put.ensures.place, c.put-behind.ensures.place, c.bytes-bytes.ensures.same)
    (row_place c.bytes.result.now c.args.key.now c.args.value.now c.args.marked is c.args.at)

pub returns-clause-out : goal.returns-clause-out
returns-clause-out c =
    let is : c.bytes.result.now ≡ row_front c.args.marked.expiry c.args.marked.used c.args.key.now (length c.args.value.now) = rw (c.bytes.ensures.same, c.row_front_of-front.ensures.front, c.bytes-bytes.ensures.same) refl in
    rw (c.put.ensures.out, c.put-behind.ensures.out, c.put-behind.ensures.place, c.bytes-bytes.ensures.same)
    (row_put c.bytes.result.now c.args.key.now c.args.value.now c.args.marked is c.args.at c.args.out.now)
