use Rattle.std.proofs.Common.{◌≡◌, ◌++◌, false, drop, string_bytes}
use Rattle.jc_report.specs.Values.{items_json}
use Rattle.jc_report.proofs.values.push_items.Given as goal

-- the items so far, and then what is left, are all
abbrev pub invariant-loop-item : goal.invariant-loop-item
invariant-loop-item g l = string_bytes l.text ++ items_json g.T.Shown.json l.later (drop l.item-index l.items) ≡ string_bytes l.initial.text ++ items_json g.T.Shown.json false l.items
