use Rattle.std.proofs.Common.{◌≡◌, drop}
use Rattle.jc_c.specs.Reading.{key_list_said}
use Rattle.jc_c.proofs.Listing.{prefixed}
use Rattle.jc_c.proofs.reading.keys_in.Given as goal

abbrev pub invariant-loop-n : goal.invariant-loop-n
invariant-loop-n l = key_list_said l.lengths l.fn.bytes ≡ prefixed l.keys.items (key_list_said (drop l.n-index l.lengths) l.left)
