use Rattle.std.proofs.Common.{◌≡◌, ◌++◌}
use Rattle.jc_engine.proofs.Saved.{HasAdded}
use Rattle.jc_engine.proofs.restoring.add_rows.Given as goal

abbrev pub invariant-loop-row : goal.invariant-loop-row
invariant-loop-row g l = record {
  added : HasAdded l.fn.visit l.visit l.yielded l.row-iterator.rest.items;
  all : l.yielded ++ l.row-iterator.rest.items ≡ l.fn.rows.items;
}
