use Rattle.std.proofs.Common.{◌≡◌, ◌+◌, ◌++◌, drop}
use Rattle.toml.specs.View.{items_view}
use Rattle.jc_explain.specs.ConfigFaults.{faults_of_tables}
use Rattle.jc_explain.proofs.config_faults.faults_of_tables.Given as goal

-- the faults so far, and those of the tables that are left, are all
abbrev pub invariant-loop-i : goal.invariant-loop-i
invariant-loop-i l = faults_of_tables 1 (items_view l.tables) ≡ l.faults.items ++ faults_of_tables (l.i + 1) (items_view (drop l.i l.tables))
