use Rattle.std.proofs.Common.{arith}
use Rattle.jc_save.proofs.Keys.{key_good, key_bad}
use Rattle.jc_save.proofs.rows.key_at.Goals as goal

pub returns-in-Ok-from_text : goal.returns-in-Ok-from_text
returns-in-Ok-from_text c =
    let text = c.in_ok-text.text.now in
    let same = c.in-Ok.ensures.cases.0 in
    let is = c.in-Ok-from_text.ensures.key (rw same (omega (arith, c.in_ok-text.ensures.length, c.if-length-lt1.false))) (rw same (omega (arith, c.in_ok-text.ensures.length, c.if-length-gt-KEY_BYTES.false))) in
    let good = key_good c.args.bytes.now c.in_ok-length.rest.now text c.in_ok-text.after.now c.in_ok-length.length c.in_ok-length.ensures (omega (arith, c.if-length-lt1.false)) (omega (arith, c.if-length-gt-KEY_BYTES.false)) c.in_ok-text.ensures.read c.in-Ok.ensures.cases.1 in
    cc

pub returns-in-Err-from_text : goal.returns-in-Err-from_text
returns-in-Err-from_text c =
    let same = c.in-Ok.ensures.cases.0 in
    let is = c.in-Err-from_text.ensures.key (rw same (omega (arith, c.in_ok-text.ensures.length, c.if-length-lt1.false))) (rw same (omega (arith, c.in_ok-text.ensures.length, c.if-length-gt-KEY_BYTES.false))) in
    absurd cc

pub returns-in-Err : goal.returns-in-Err
returns-in-Err c =
    rw c.flawed-in-Err.ensures (key_bad c.args.bytes.now c.in_ok-length.rest.now c.in_ok-text.text.now c.in_ok-text.after.now c.in_ok-length.length c.in_ok-length.ensures (omega (arith, c.if-length-lt1.false)) (omega (arith, c.if-length-gt-KEY_BYTES.false)) c.in_ok-text.ensures.read c.in-Err.ensures.cases.0)
