use Rattle.std.proofs.Common.{◌≡◌, drop}
use Rattle.jc_c.specs.Reading.{pair_list_said}
use Rattle.jc_c.proofs.Listing.{prefixed}
use Rattle.jc_c.proofs.reading.pairs_in.Given as goal

abbrev pub invariant-loop-w : goal.invariant-loop-w
invariant-loop-w l = pair_list_said l.lengths l.fn.bytes ≡ prefixed l.pairs.items (pair_list_said (drop l.w-index l.lengths) l.left)
