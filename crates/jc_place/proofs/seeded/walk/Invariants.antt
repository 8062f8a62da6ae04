use Rattle.std.proofs.Common.{◌≡◌, take, fold}
use Rattle.jc_place.specs.Seeded.{fnv_step}
use Rattle.jc_place.proofs.seeded.walk.Given as goal

-- the bytes so far are walked
abbrev pub invariant-loop-byte : goal.invariant-loop-byte
invariant-loop-byte l = l.walked ≡ fold fnv_step l.fn.hash (take l.byte-index l.bytes)
