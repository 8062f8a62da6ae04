use Rattle.std.proofs.Common.{◌≡◌, ◌++◌, drop, map}
use Rattle.jc_runner.specs.Every.{of_config}
use Rattle.jc_runner.proofs.every.add_config_faults.Given as goal

-- what was added, then the faults that are left, is all
abbrev pub invariant-loop-fault : goal.invariant-loop-fault
invariant-loop-fault l = l.faults.items ++ map of_config (drop l.fault-index l.tables) ≡ l.initial.faults.items ++ map of_config l.tables
