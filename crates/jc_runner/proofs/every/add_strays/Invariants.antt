use Rattle.std.proofs.Common.{◌≡◌, ◌++◌, drop, map}
use Rattle.jc_runner.specs.Every.{of_entry}
use Rattle.jc_runner.proofs.every.add_strays.Given as goal

-- what was added, then the lines that are left, is all
abbrev pub invariant-loop-line : goal.invariant-loop-line
invariant-loop-line l = l.faults.items ++ map of_entry (drop l.line-index l.lines) ≡ l.initial.faults.items ++ map of_entry l.lines
