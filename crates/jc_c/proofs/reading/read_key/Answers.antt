use Rattle.std.proofs.Common.{sym, ◌∙◌}
use Rattle.jc_c.proofs.Keys.{made, bad}
use Rattle.jc_c.proofs.reading.read_key.Goals as goal

pub returns-in-Ok-from_text : goal.returns-in-Ok-from_text
returns-in-Ok-from_text c =
    let same = c.in-Ok.ensures.cases.0 in
    made c.args.bytes.now c.in-Ok-from_text.key c.in-Ok.ensures.cases.1
    (λ e. let no = c.in-Ok-from_text.ensures.empty (same ∙ e) in cc)
    (λ long. let no = c.in-Ok-from_text.ensures.too_long (rw same long) in cc)
    (λ low high. let is = c.in-Ok-from_text.ensures.key (rw same low) (rw same high) in cc)

pub returns-in-Err : goal.returns-in-Err
returns-in-Err c = sym (bad c.args.bytes.now c.in-Err.ensures.cases.0)
