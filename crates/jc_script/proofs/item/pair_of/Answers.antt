use Rattle.std.proofs.Common.{◌≡◌, ◌≢◌, List, [], ◌∷◌, length, None, refl, sym}
use Rattle.std.specs.declared.alloc.Global.{Global}
use Rattle.json.specs.declared.value.Value.{Value}
use Rattle.jc_script.specs.Member.{pair_in}
use Rattle.jc_script.specs.Tree.{items_in}
use Rattle.jc_script.proofs.item.pair_of.Goals as goal

-- a list of other than two items is no pair
no_pair : (items : List (Value Global)) → length items ≢ 2 → pair_in (items_in items) ≡ None
no_pair [] h = refl
no_pair (first ∷ []) h = refl
no_pair (first ∷ second ∷ []) h = absurd (h refl)
no_pair (first ∷ second ∷ third ∷ rest) h = refl

pub returns-then-items-ne2 : goal.returns-then-items-ne2
returns-then-items-ne2 c = sym (no_pair c.args.items.now c.if-items-ne2.true)
