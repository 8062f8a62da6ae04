use Rattle.std.proofs.Common.{◌≡◌, drop}
use Rattle.serde_json.specs.View.{items_view}
use Rattle.jc_explain.specs.Twice.{has_key}
use Rattle.jc_explain.proofs.twice.has_key.Given as goal

-- the key is among all exactly if it is among those that are left
abbrev pub invariant-loop-item : goal.invariant-loop-item
invariant-loop-item l = has_key l.of_pairs l.key (items_view l.items) ≡ has_key l.of_pairs l.key (items_view (drop l.item-index l.items))
