use Rattle.std.proofs.Common.{refl, arith}
use Rattle.jc_core_tests.proofs.lookups.lookups_tell_what_the_last_image_shows.Goals as goal

pub new-requires : goal.new-requires
new-requires g c = record { exponent = 4; power = refl; least = omega arith; most = omega arith }
