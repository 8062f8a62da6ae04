use Rattle.std.proofs.Common.{◌≡◌, drop}
use Rattle.jc_engine.specs.Caches.{lives_of}
use Rattle.jc_report.specs.Again.{after_entries}
use Rattle.jc_report.specs.Totals.{entries_lent}
use Rattle.jc_report.proofs.counters.make_all.Given as goal

abbrev pub invariant-loop-entry : goal.invariant-loop-entry
invariant-loop-entry g l = after_entries (lives_of l.engine) (entries_lent (drop l.entry-index l.entries)) ≡ after_entries (lives_of l.initial.engine) (entries_lent l.entries)
