use Rattle.std.proofs.Common.{arith, refl}
use Rattle.jc_place.specs.Place.{IsTableSize}
use Rattle.jc_report.proofs.counters.table.Goals as goal

is_size : IsTableSize 64
is_size = record { exponent = 6; power = refl; least = omega arith; most = omega arith }

pub unreachable-requires : goal.unreachable-requires
unreachable-requires c = c.in-Err-BadBuckets.ensures.refused.0 c.in-Err-BadBuckets.field-0-is is_size
