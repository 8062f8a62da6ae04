use Rattle.std.proofs.Common.{◌≡◌, length, count_by}
use Rattle.jc_ops.proofs.StateNames.{turned, RowMap, IsTied, items_of, with_cells}
use Rattle.jc_ops.proofs.state.CacheState.turn_hand.Given as goal

-- a turn changes nothing in what the hand leaves
abbrev pub invariant-loop-row : goal.invariant-loop-row
invariant-loop-row g l = record {
  hand : turned l.now (items_of l.self.kept.cells) ≡ turned l.now (items_of l.fn.self.kept.cells);
  tied : (m : RowMap) → IsTied m l.fn.self.kept → IsTied m l.self.kept;
  many : length l.self.kept.cells ≡ length l.fn.self.kept.cells;
  kept : l.self ≡ with_cells l.self.kept.cells l.fn.self;
}

-- the set bits
abbrev pub decreases-loop-row : goal.decreases-loop-row
decreases-loop-row g l = count_by (λ c. c.bit) l.self.kept.cells
