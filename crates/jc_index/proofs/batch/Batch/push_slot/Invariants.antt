use Rattle.std.proofs.Common.{◌≡◌, ◌+◌, ◌++◌, take}
use Rattle.jc_index.specs.Batches.{placed_at}
use Rattle.jc_index.proofs.batch.Batch.push_slot.Given as goal

abbrev pub invariant-loop-k : goal.invariant-loop-k
invariant-loop-k l = (take l.self.length l.self.writes ≡ take l.fn.self.length l.fn.self.writes ++ placed_at l.first (take l.k l.words)) × (l.self.length ≡ l.fn.self.length + l.k)
