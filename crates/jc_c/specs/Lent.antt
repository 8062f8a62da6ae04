-- An item of which the parts are lent.
use Rattle.std.specs.Prelude.{option_map}
use Rattle.jc_c.specs.declared.items.Item as lent
use Rattle.jc_c.specs.Items.{ShownItem}

abbrev pub item_lent : lent.Item → ShownItem
item_lent x = record { key = option_map (λ b. b.now) x.key; value = option_map (λ b. b.now) x.value; before = option_map (λ b. b.now) x.before; argument = option_map (λ b. b.now) x.argument }
