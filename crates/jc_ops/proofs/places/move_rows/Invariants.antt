use Rattle.std.proofs.Common.{◌≡◌, ◌++◌, length}
use Rattle.jc_ops.proofs.places.move_rows.Given as goal

-- what has moved, and then what is left, is all
abbrev pub invariant-rows : goal.invariant-rows
invariant-rows g l = record {
  all : g.G.Ring.list l.to ++ g.G.Ring.list l.from ≡ g.G.Ring.list l.fn.from;
  limit : g.G.Ring.limit l.to ≡ g.G.Ring.limit l.fn.to;
}

abbrev pub decreases-rows : goal.decreases-rows
decreases-rows g l = length (g.G.Ring.list l.from)
