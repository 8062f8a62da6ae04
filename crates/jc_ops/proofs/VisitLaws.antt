-- What is true of two changes of a visit after each other, and of none.
use Rattle.std.proofs.lemmas.Grind.{common_steps}
use Rattle.std.proofs.Common.{◌+◌, ℕ, refl, arith}
use Rattle.jc_ops.proofs.StateNames.{Visited, IsSameVisit, SpendsAtMost}

pub same_on : (u v w : Visited) → IsSameVisit u v → IsSameVisit v w → IsSameVisit u w
same_on u v w first then = grind (arith, common_steps)

pub spends_on : (u v w : Visited) (a b c d : ℕ) → SpendsAtMost a b u v → SpendsAtMost c d v w → SpendsAtMost (a + c) (b + d) u w
spends_on u v w a b c d first then = grind (arith, common_steps)

pub same_visit : (v : Visited) → IsSameVisit v v
same_visit v = record { config = refl; id = refl; moment = refl; elsewhere = λ other key differ. refl }
