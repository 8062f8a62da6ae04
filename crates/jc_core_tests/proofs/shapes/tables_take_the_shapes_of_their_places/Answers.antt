use Rattle.std.proofs.Common.{refl, arith}
use Rattle.jc_core_tests.proofs.shapes.tables_take_the_shapes_of_their_places.Goals as goal

pub new-requires-then-refusals-eq0 : goal.new-requires-then-refusals-eq0
new-requires-then-refusals-eq0 g c = record { exponent = 4; power = refl; least = omega arith; most = omega arith }
