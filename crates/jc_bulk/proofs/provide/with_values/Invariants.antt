use Rattle.std.proofs.Common.{◌≡◌}
use Rattle.jc_bulk.proofs.Names.{items_of, calls_in, AreCovered}
use Rattle.jc_bulk.proofs.provide.with_values.Given as goal

abbrev pub invariant-loop-call : goal.invariant-loop-call
invariant-loop-call g l = record {
  calls : calls_in l.rest.items ≡ l.yielded;
  covered : AreCovered l.visit.cache.config (items_of l.visit.cache.cells) l.rest.items;
}
