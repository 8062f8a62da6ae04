use Rattle.std.proofs.Common.{◌≡◌, Option, option_map, ◌∙◌, ap, subst}
use Rattle.std.specs.Prelude.{IfOk}
use Rattle.json.specs.Json.{Json}
use Rattle.json.specs.Value.{value_view}
use Rattle.jc_script.specs.Tree.{tree_of_text}
use Rattle.jc_script.proofs.Texts.{tree_read, tree_refused, data_seen, no_data}
use Rattle.jc_script.proofs.object.read_tree.Goals as goal

pub returns-in-Ok-clause-tree : goal.returns-in-Ok-clause-tree
returns-in-Ok-clause-tree c =
    subst (λ (j : Option Json). IfOk c.read_text.result (λ o. option_map value_view o ≡ j)) (ap tree_of_text c.in-Ok.ensures.0 ∙ tree_read c.args.bytes.now c.in-Ok.ensures.1) c.read_text.ensures

pub returns-in-Ok-clause-read : goal.returns-in-Ok-clause-read
returns-in-Ok-clause-read c =
    data_seen c.args.bytes.now c.read_text.result (ap tree_of_text c.in-Ok.ensures.0 ∙ tree_read c.args.bytes.now c.in-Ok.ensures.1) c.read_text.ensures

pub returns-in-Err-clause-tree : goal.returns-in-Err-clause-tree
returns-in-Err-clause-tree c = tree_refused c.args.bytes.now (λ utf8. c.in-Err.ensures utf8)

pub returns-in-Err-clause-read : goal.returns-in-Err-clause-read
returns-in-Err-clause-read c = no_data c.args.bytes.now (λ utf8. c.in-Err.ensures utf8)
