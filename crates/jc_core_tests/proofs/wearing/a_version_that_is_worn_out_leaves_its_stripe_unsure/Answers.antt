use Rattle.std.proofs.Common.{refl, arith}
use Rattle.jc_core_tests.proofs.wearing.a_version_that_is_worn_out_leaves_its_stripe_unsure.Goals as goal

pub starting_at-requires-clause-size : goal.starting_at-requires-clause-size
starting_at-requires-clause-size g c = record { exponent = 7; power = refl; least = omega arith; most = omega arith }
