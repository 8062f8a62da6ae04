use Rattle.std.proofs.Common.{◌≡◌, ◌++◌, drop, option_map}
use Rattle.jc_script.specs.Member.{each_item}
use Rattle.jc_script.specs.Tree.{items_in}
use Rattle.jc_script.proofs.item.read_each.Given as goal

-- the items so far, and then what is left, are all
abbrev pub invariant-loop-item : goal.invariant-loop-item
invariant-loop-item g l = option_map (λ xs. l.list.items ++ xs) (each_item g.T.Item.reading (items_in (drop l.item-index l.items))) ≡ each_item g.T.Item.reading (items_in l.items)
