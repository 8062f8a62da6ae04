use Rattle.std.proofs.Common.{◌≡◌, Option, Some, None, option_map, Bor, refl, ap, ◌∙◌}
use Rattle.std.specs.declared.alloc.Global.{Global}
use Rattle.json.specs.Value.{value_view}
use Rattle.json.specs.declared.value.Value.{Value}
use Rattle.jc_script.specs.Tree.{data_of, data_in}
use Rattle.jc_script.proofs.Trees.{found_by_name}
use Rattle.jc_script.proofs.tree.member_of.Goals as goal

seen : (r : Option (Bor (Value Global))) → option_map (λ v. data_in v.now) r ≡ option_map data_of (option_map (λ v. value_view v.now) r)
seen None = refl
seen (Some v) = refl

pub returns : goal.returns
returns c = seen c.get.result ∙ ap (option_map data_of) c.get.ensures ∙ found_by_name c.args.name.now (value_view c.args.value.now)
