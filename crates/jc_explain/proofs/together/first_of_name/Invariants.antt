use Rattle.std.proofs.Common.{◌≡◌, ◌+◌, drop}
use Rattle.toml.specs.View.{items_view}
use Rattle.jc_explain.specs.Together.{named_from}
use Rattle.jc_explain.proofs.together.first_of_name.Given as goal

-- the first of the tables that are left is the first of all
abbrev pub invariant-loop-i : goal.invariant-loop-i
invariant-loop-i l = named_from 1 l.name (items_view l.tables) ≡ named_from (l.i + 1) l.name (items_view (drop l.i l.tables))
