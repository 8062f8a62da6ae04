use Rattle.std.proofs.Common.{◌≡◌, drop}
use Rattle.jc_bulk.specs.Entries.{all_touched}
use Rattle.jc_bulk.proofs.Names.{IsSameVisit, progress_in}
use Rattle.jc_bulk.proofs.entries.touch_each.Given as goal

abbrev pub invariant-loop-key : goal.invariant-loop-key
invariant-loop-key g l = record {
  same : IsSameVisit l.fn.visit l.visit;
  progress : all_touched l.fn.visit (drop l.key-index l.keys) (progress_in l.visit) ≡ all_touched l.fn.visit l.keys (progress_in l.fn.visit);
}
