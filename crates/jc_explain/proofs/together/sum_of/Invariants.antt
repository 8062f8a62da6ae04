use Rattle.std.proofs.Common.{◌≡◌, ◌≤◌, ◌+◌, ◌*◌, drop}
use Rattle.toml.specs.View.{items_view}
use Rattle.jc_explain.specs.Together.{sum_of}
use Rattle.jc_explain.proofs.together.sum_of.Given as goal

-- the sum so far, and that of the tables that are left, is that of all
abbrev pub invariant-loop-table : goal.invariant-loop-table
invariant-loop-table l =
    (l.sum + sum_of (items_view (drop l.table-index l.tables)) ≡ sum_of (items_view l.tables)) × (l.sum ≤ 65536 * l.table-index)
