use Rattle.std.proofs.Common.{refl}
use Rattle.jc_c.proofs.walk.write_row.Goals as goal

pub returns : goal.returns
returns c = rw (c.write_parts.ensures, c.head_of-head.ensures, c.as_bytes-key.ensures.value, c.text.ensures.same, c.bytes-value.ensures.same, c.first.ensures) refl
