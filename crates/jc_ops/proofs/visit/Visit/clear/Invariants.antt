use Rattle.std.proofs.Common.{◌≡◌, length}
use Rattle.jc_ops.proofs.StateNames.{SpendsAtMost}
use Rattle.jc_ops.proofs.visit.Visit.clear.Given as goal

abbrev pub invariant-rows : goal.invariant-rows
invariant-rows g l = record {
  spends : SpendsAtMost 0 0 l.fn.self l.self;
  same : l.self.cache ≡ record l.fn.self.cache { cells = l.self.cache.cells };
  noted : l.self.noted ≡ l.fn.self.noted;
}

abbrev pub decreases-rows : goal.decreases-rows
decreases-rows g l = length l.self.cache.cells
