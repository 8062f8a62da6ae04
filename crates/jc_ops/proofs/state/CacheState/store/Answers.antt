use Rattle.std.proofs.Common.{arith}
use Rattle.jc_ops.proofs.Shelves.{shelf_laws}
use Rattle.jc_ops.proofs.state.CacheState.store.Goals as goal

pub invariant_of-self : goal.invariant_of-self
invariant_of-self g c = record {
  filled = λ r. grind (arith, shelf_laws);
  count = grind (arith, shelf_laws);
  within = grind (arith, shelf_laws);
  numbers = grind (arith, shelf_laws);
  some = c.self.invariant.some;
}
